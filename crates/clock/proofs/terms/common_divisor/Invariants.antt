-- `terms::common_divisor` meets its contract: the two numbers have the common divisors of those it began with. Assumes nothing.
use Rattle.clock.proofs.CommonDivisors.{Alike}
use Rattle.clock.proofs.terms.common_divisor.Given as goal

abbrev pub invariant-loop-smaller : goal.invariant-loop-smaller
invariant-loop-smaller l = Alike l.a l.b l.larger l.smaller

abbrev pub decreases-loop-smaller : goal.decreases-loop-smaller
decreases-loop-smaller l = l.smaller
