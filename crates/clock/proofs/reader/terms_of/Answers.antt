-- `reader::terms_of` meets its contract. Assumes nothing.
use mathlib.Core.Path.{sym, ◌∙◌}
use borrow.Author.Tests.{eq-eqb}
use Rattle.clock.specs.Clock.{terms_of}
use Rattle.clock.proofs.LowestTerms.{default-terms}
use Rattle.clock.proofs.RateRounds.{terms-lowest}
use Rattle.clock.proofs.reader.terms_of.Goals as goal

pub returns-then-denominator-eq0 : goal.returns-then-denominator-eq0
unfolding terms_of
returns-then-denominator-eq0 c = rw (eq-eqb _ _ (sym c.denominator.ensures ∙ c.if-denominator-eq0.true), default-terms c.default.result c.default.ensures)

pub returns : goal.returns
returns c = rw (c.lowest_terms.ensures, c.product.ensures, c.divisor.ensures, terms-lowest)
