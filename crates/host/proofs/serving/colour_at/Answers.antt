-- `colour_at` meets its contract. Assumes nothing.
use mathlib.Core.Path.{refl}
use Rattle.host.specs.Left.{colour_at}
use Rattle.host.proofs.serving.colour_at.Goals as goal

pub returns : goal.returns
unfolding colour_at
returns c = refl
