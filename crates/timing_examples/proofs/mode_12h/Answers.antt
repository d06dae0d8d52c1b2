-- `mode_12h` meets its contract: one register after the other, from the last of the list to its first. Assumes nothing.
use mathlib.Core.Path.{refl}
use Rattle.paper.specs.Examples.{started, mode12}
use Rattle.timing_examples.proofs.mode_12h.Goals as goal

pub returns : goal.returns
unfolding started mode12
returns c = rw (c.set_registers.ensures, c.opened.ensures) refl
