-- `limit_of` meets its contract. Assumes nothing.
use borrow.Author.Tests.{eq-eqb, ne_eqb}
use Rattle.host.specs.Quick.{limit_of}
use Rattle.host.proofs.serving.limit_of.Goals as goal

pub returns-then-kind-ne1 : goal.returns-then-kind-ne1
unfolding limit_of
returns-then-kind-ne1 c = rw (ne_eqb _ _ c.if-kind-ne1.true)

pub returns-then-width-eq1 : goal.returns-then-width-eq1
unfolding limit_of
returns-then-width-eq1 c = rw (eq-eqb _ _ c.if-kind-ne1.false, eq-eqb _ _ c.if-width-eq1.true)

pub returns-else-width-eq1 : goal.returns-else-width-eq1
unfolding limit_of
returns-else-width-eq1 c = rw (eq-eqb _ _ c.if-kind-ne1.false, ne_eqb _ _ c.if-width-eq1.false)
