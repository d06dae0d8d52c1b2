-- `end_of_four` meets its contract. Assumes nothing.
use mathlib.Core.Path.{refl}
use Rattle.bits.specs.Numbers.{end_after}
use Rattle.timing.proofs.vertical.end_of_four.Goals as goal

pub returns : goal.returns
unfolding end_after
returns c = refl
