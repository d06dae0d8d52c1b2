-- `edge::is_empty` meets its contract. Assumes nothing.
use borrow.Author.Tests.{le-leb, lt-leb}
use Rattle.geometry.proofs.edge.is_empty.Goals as goal

pub returns-then-right-left : goal.returns-then-right-left
returns-then-right-left c = rw (le-leb _ _ c.if-right-left.true)

pub returns-else-right-left : goal.returns-else-right-left
returns-else-right-left c = rw (lt-leb _ _ c.if-right-left.false)
