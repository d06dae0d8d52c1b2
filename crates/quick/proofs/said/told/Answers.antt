-- `told` meets its contract. Assumes nothing.
use native.Mathlib.Omega.{arith}
use Rattle.quick.specs.Said.{code_in, value_in}
use Rattle.quick.proofs.said.told.Goals as goal

pub returns : goal.returns
unfolding code_in value_in
returns c = (omega arith, omega arith, omega arith)
