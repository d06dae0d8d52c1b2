-- `rate::divisor` meets its contract. Assumes nothing.
use native.Mathlib.Nat.{div-one}
use native.Mathlib.Omega.{arith}
use borrow.Author.Tests.{eq-eqb, ne_eqb}
use Rattle.bits.specs.Store.{bit, bits}
use Rattle.clock.specs.Clock.{denominator, divisor, post_scaled}
use Rattle.clock.proofs.rate.divisor.Goals as goal

pub overflow_mul-result : goal.overflow_mul-result
unfolding denominator bits
overflow_mul-result c = omega (arith, c.denominator.ensures)

pub returns-then-d-eq1 : goal.returns-then-d-eq1
unfolding divisor post_scaled bit
returns-then-d-eq1 c = simp (div-one, eq-eqb _ _ c.if-d-eq1.true, c.denominator.ensures)

pub returns-else-d-eq1 : goal.returns-else-d-eq1
unfolding divisor post_scaled bit
returns-else-d-eq1 c = simp (div-one, ne_eqb _ _ c.if-d-eq1.false, c.denominator-else-d-eq1.ensures)
