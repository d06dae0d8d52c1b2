-- `explain::first_line` meets its contract. Assumes nothing.
use borrow.Author.Tests.{eq-eqb, ne_eqb}
use Rattle.explaining.specs.Explained.{first_line}
use Rattle.explaining.proofs.explain.first_line.Goals as goal

pub returns-then-bits-eq0 : goal.returns-then-bits-eq0
unfolding first_line
returns-then-bits-eq0 c = rw (eq-eqb _ 0 c.if-bits-eq0.true, c.head_line-head.ensures)

pub returns : goal.returns
unfolding first_line
returns c = rw (ne_eqb _ 0 c.if-bits-eq0.false, c.register_part.ensures, c.register_of-new.ensures, c.register_of-old.ensures, c.head_line-head.ensures)
