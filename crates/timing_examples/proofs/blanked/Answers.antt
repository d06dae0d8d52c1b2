-- `blanked` meets its contract. Assumes nothing.
use mathlib.Core.Path.{refl}
use Rattle.timing.specs.Timing.{timing_of}
use Rattle.timing_examples.proofs.blanked.Goals as goal

pub returns : goal.returns
unfolding timing_of
returns c = refl
