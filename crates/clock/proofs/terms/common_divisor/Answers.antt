use native.Mathlib.Omega.{arith}
use Rattle.clock.proofs.CommonDivisors.{alike-first, alike_next, alike-last}
use Rattle.clock.proofs.terms.common_divisor.Goals as goal

pub loop-smaller-init : goal.loop-smaller-init
loop-smaller-init c = alike-first _ _ c.requires

pub loop-smaller-preserved : goal.loop-smaller-preserved
loop-smaller-preserved c = alike_next _ _ _ _ (omega (arith, c.loop-smaller-test.true)) c.loop-smaller.invariant

pub returns : goal.returns
returns c = alike-last _ _ _ c.requires (rw c.loop-smaller-test.false at c.loop-smaller.invariant)
