-- `is_set` meets its contract. Assumes nothing.
use mathlib.Core.Path.{refl}
use Rattle.image.specs.Bytes.{is_set}
use Rattle.image.proofs.bytes.is_set.Goals as goal

pub returns : goal.returns
unfolding is_set
returns c = refl
