-- `colour_in` meets its contract. Assumes nothing.
use mathlib.Core.Path.{refl}
use Rattle.quick.specs.Said.{colour_in}
use Rattle.quick.proofs.said.colour_in.Goals as goal

pub returns : goal.returns
unfolding colour_in
returns c = refl
