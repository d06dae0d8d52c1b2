-- `row_code` meets its contract. Assumes nothing.
use borrow.Author.Tests.{eq-eqb, ne_eqb}
use Rattle.host.proofs.serving.row_code.Goals as goal

pub returns-then-colour : goal.returns-then-colour
returns-then-colour c = rw (eq-eqb _ _ c.if-row-eq59.true, c.if-colour.true)

pub returns-else-colour : goal.returns-else-colour
returns-else-colour c = rw (eq-eqb _ _ c.if-row-eq59.true, c.if-colour.false)

pub returns-then-colour-2 : goal.returns-then-colour-2
returns-then-colour-2 c = rw (ne_eqb _ _ c.if-row-eq59.false, eq-eqb _ _ c.if-row-eq61.true, c.if-colour-2.true)

pub returns-else-colour-2 : goal.returns-else-colour-2
returns-else-colour-2 c = rw (ne_eqb _ _ c.if-row-eq59.false, eq-eqb _ _ c.if-row-eq61.true, c.if-colour-2.false)

pub returns : goal.returns
returns c = rw (ne_eqb _ _ c.if-row-eq59.false, ne_eqb _ _ c.if-row-eq61.false)
