-- `is_nothing` meets its contract. Assumes nothing.
use mathlib.Core.Path.{refl}
use Rattle.places.specs.EngineCells.{is_nothing}
use Rattle.places.proofs.decode.is_nothing.Goals as goal

pub returns : goal.returns
unfolding is_nothing
returns c = refl
