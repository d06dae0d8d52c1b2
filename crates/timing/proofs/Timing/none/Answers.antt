-- `timing::Timing::none` meets its contract. Assumes nothing.
use mathlib.Core.Path.{refl}
use Rattle.timing.specs.Timing.{timing_of}
use Rattle.timing.proofs.Timing.none.Goals as goal

pub returns : goal.returns
unfolding timing_of
returns c = refl
