-- `paints` meets its contract. Assumes nothing.
use mathlib.Core.Path.{refl}
use Rattle.quick.specs.Said.{paints_in, mark_in}
use Rattle.quick.proofs.said.paints.Goals as goal

pub returns : goal.returns
unfolding paints_in mark_in
returns c = refl
