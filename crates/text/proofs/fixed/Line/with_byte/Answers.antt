-- `Line::with_byte` meets its contract. Assumes nothing.
use borrow.Author.Tests.{lt-ltb, le-ltb}
use Rattle.text.specs.Fixed.{byte_behind}
use Rattle.text.proofs.fixed.Line.with_byte.Goals as goal

pub returns-then-self : goal.returns-then-self
unfolding byte_behind
returns-then-self g c = rw (lt-ltb _ _ c.if-self.true)

pub returns-else-self : goal.returns-else-self
unfolding byte_behind
returns-else-self g c = rw (le-ltb _ _ c.if-self.false)
