-- `rate::dot_clock` meets its contract. Assumes nothing.
use mathlib.Core.Path.{sym, ◌∙◌}
use borrow.Author.Tests.{eq-eqb, ne_eqb}
use Rattle.clock.specs.Clock.{dot_clock, rate}
use Rattle.clock.proofs.rate.dot_clock.Goals as goal

pub returns-then-denominator-eq0 : goal.returns-then-denominator-eq0
unfolding dot_clock
returns-then-denominator-eq0 c = rw (eq-eqb _ _ (sym c.denominator.ensures ∙ c.if-denominator-eq0.true))

pub returns : goal.returns
unfolding dot_clock rate
returns c =
    rw (ne_eqb _ _ (λ e. c.if-denominator-eq0.false (c.denominator.ensures ∙ e)), c.from.ensures, c.from-2.ensures, c.product.ensures, c.divisor.ensures)
