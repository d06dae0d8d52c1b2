-- `attribute` meets its contract. Assumes nothing.
use borrow.Author.Tests.{le-ltb, lt-ltb}
use Rattle.places.specs.EngineCells.{attribute_place}
use Rattle.places.proofs.decode.attribute.Goals as goal

pub returns-then-not-toggle : goal.returns-then-not-toggle
unfolding attribute_place
returns-then-not-toggle c = rw c.if-not-toggle.true

pub returns-then-number-lt-REGISTERS : goal.returns-then-number-lt-REGISTERS
unfolding attribute_place
returns-then-number-lt-REGISTERS c = rw (c.if-not-toggle.false, ← c.from-number.ensures, lt-ltb _ _ c.if-number-lt-REGISTERS.true)

pub returns-else-number-lt-REGISTERS : goal.returns-else-number-lt-REGISTERS
unfolding attribute_place
returns-else-number-lt-REGISTERS c = rw (c.if-not-toggle.false, ← c.from-number.ensures, le-ltb _ _ c.if-number-lt-REGISTERS.false)
