-- `words::passing_found` meets its contract. Assumes nothing.
use borrow.Author.Tests.{eq-eqb, ne_eqb}
use Rattle.access.specs.Checks.{is_passing}
use Rattle.explaining.specs.Words.{passing_found}
use Rattle.explaining.proofs.words.passing_found.Goals as goal

pub returns-then-asked-eq0 : goal.returns-then-asked-eq0
unfolding passing_found is_passing
returns-then-asked-eq0 c = rw (eq-eqb _ _ c.if-asked-eq6.true, eq-eqb _ _ c.if-asked-eq0.true)

pub returns-else-asked-eq0 : goal.returns-else-asked-eq0
unfolding passing_found is_passing
returns-else-asked-eq0 c = rw (eq-eqb _ _ c.if-asked-eq6.true, ne_eqb _ _ c.if-asked-eq0.false)

pub returns-else-asked-eq6 : goal.returns-else-asked-eq6
unfolding passing_found is_passing
returns-else-asked-eq6 c = rw (ne_eqb _ _ c.if-asked-eq6.false)
