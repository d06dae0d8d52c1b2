-- `terms::lowest_terms` meets its contract. Assumes nothing.
use native.Mathlib.Omega.{arith}
use borrow.Author.Tests.{eq-eqb, ne_eqb}
use Rattle.clock.specs.Lowest.{lowest}
use Rattle.clock.proofs.CommonDivisors.{common-positive}
use Rattle.clock.proofs.LowestTerms.{default-terms}
use Rattle.clock.proofs.terms.lowest_terms.Goals as goal

pub returns-then-b-eq0 : goal.returns-then-b-eq0
unfolding lowest
returns-then-b-eq0 c = rw (eq-eqb _ _ c.if-b-eq0.true) (default-terms c.default.result c.default.ensures)

pub nonzero_div-result : goal.nonzero_div-result
nonzero_div-result c = rw c.common_divisor-divisor.ensures (common-positive _ _ (omega (arith, c.if-b-eq0.false)))

pub nonzero_div-result-2 : goal.nonzero_div-result-2
nonzero_div-result-2 c = rw c.common_divisor-divisor.ensures (common-positive _ _ (omega (arith, c.if-b-eq0.false)))

pub returns : goal.returns
unfolding lowest
returns c = rw (ne_eqb _ _ c.if-b-eq0.false, c.common_divisor-divisor.ensures)
