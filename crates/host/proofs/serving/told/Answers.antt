-- `told` meets its contract. Assumes nothing.
use mathlib.Core.Path.{refl}
use Rattle.host.specs.Numbers.{told}
use Rattle.host.proofs.serving.told.Goals as goal

pub returns : goal.returns
unfolding told
returns c = refl
