-- `code_in` meets its contract. Assumes nothing.
use mathlib.Core.Path.{refl}
use Rattle.quick.specs.Said.{code_in}
use Rattle.quick.proofs.said.code_in.Goals as goal

pub returns : goal.returns
unfolding code_in
returns c = refl
