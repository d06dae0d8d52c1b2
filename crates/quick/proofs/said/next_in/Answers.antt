-- `next_in` meets its contract. Assumes nothing.
use mathlib.Core.Path.{refl}
use Rattle.quick.specs.Said.{next_in}
use Rattle.quick.proofs.said.next_in.Goals as goal

pub returns : goal.returns
unfolding next_in
returns c = refl
