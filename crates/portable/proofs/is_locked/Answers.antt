-- `portable::is_locked` meets its contract. Assumes nothing.
use mathlib.Core.Path.{refl}
use Rattle.bits.specs.Store.{bit}
use Rattle.portable.proofs.is_locked.Goals as goal

pub returns : goal.returns
unfolding bit
returns c = refl
