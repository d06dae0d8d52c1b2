-- `store_in` meets its contract. Assumes nothing.
use native.Mathlib.Omega.{arith}
use Rattle.trace.proofs.running.store_in.Goals as goal

pub returns-then-number-lt-REGISTERS : goal.returns-then-number-lt-REGISTERS
returns-then-number-lt-REGISTERS c = λ h. rw c.store.ensures

pub returns-else-number-lt-REGISTERS : goal.returns-else-number-lt-REGISTERS
returns-else-number-lt-REGISTERS c = λ h. absurd (let no : ⊥ = omega (arith, h) in no)
