-- `meaning::is_set` meets its contract. Assumes nothing.
use mathlib.Core.Path.{refl}
use Rattle.bits.specs.Store.{bit}
use Rattle.explaining.proofs.meaning.is_set.Goals as goal

pub returns : goal.returns
unfolding bit
returns c = refl
