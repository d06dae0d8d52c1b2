-- `parts::colour_code` meets its contract. Assumes nothing.
use mathlib.Core.Path.{refl}
use Rattle.explaining.specs.Explained.{colour_code}
use Rattle.explaining.proofs.parts.colour_code.Goals as goal

pub returns : goal.returns
unfolding colour_code
returns c = refl
