-- `value_in` meets its contract. Assumes nothing.
use mathlib.Core.Path.{refl}
use Rattle.quick.specs.Said.{value_in}
use Rattle.quick.proofs.said.value_in.Goals as goal

pub returns : goal.returns
unfolding value_in
returns c = refl
