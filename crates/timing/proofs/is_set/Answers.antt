-- `timing::is_set` meets its contract. Assumes nothing.
use mathlib.Core.Path.{refl}
use Rattle.bits.specs.Store.{bit}
use Rattle.timing.proofs.is_set.Goals as goal

pub returns : goal.returns
unfolding bit
returns c = refl
