-- `address_in` meets its contract. Assumes nothing.
use mathlib.Core.Path.{refl}
use Rattle.quick.specs.Said.{address_in}
use Rattle.quick.proofs.said.address_in.Goals as goal

pub returns : goal.returns
unfolding address_in
returns c = refl
