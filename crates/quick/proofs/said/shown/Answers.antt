-- `shown` meets its contract. Assumes nothing.
use native.Mathlib.Omega.{arith}
use Rattle.quick.specs.Said.{code_in, value_in, mark_in, next_in, address_in}
use Rattle.quick.proofs.said.shown.Goals as goal

pub returns : goal.returns
unfolding code_in value_in mark_in next_in address_in
returns c = (omega arith, omega arith, omega arith, omega arith, omega arith, omega arith)
