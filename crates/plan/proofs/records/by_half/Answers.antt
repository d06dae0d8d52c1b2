-- `by_half` meets its contract. Assumes nothing.
use Prim.Native.Nat.{◌/◌, ◌%◌, ◌^◌}
use native.Mathlib.Omega.{arith}
use borrow.Author.Tests.{eq-eqb, ne_eqb}
use Rattle.bits.specs.Store.{bit}
use Rattle.plan.proofs.records.by_half.Goals as goal

pub returns-then-misc-eq1 : goal.returns-then-misc-eq1
unfolding bit
returns-then-misc-eq1 c = rw (eq-eqb (c.args.misc / 2 ^ 0 % 2) 1 (omega (arith, c.if-misc-eq1.true)))

pub returns-else-misc-eq1 : goal.returns-else-misc-eq1
unfolding bit
returns-else-misc-eq1 c = rw (ne_eqb (c.args.misc / 2 ^ 0 % 2) 1 (λ e. c.if-misc-eq1.false (omega (arith, e))))
