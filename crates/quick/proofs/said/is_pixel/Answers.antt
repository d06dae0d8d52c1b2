-- `is_pixel` meets its contract. Assumes nothing.
use mathlib.Core.Path.{refl}
use Rattle.quick.specs.Said.{pixel_in, mark_in}
use Rattle.quick.proofs.said.is_pixel.Goals as goal

pub returns : goal.returns
unfolding pixel_in mark_in
returns c = refl
