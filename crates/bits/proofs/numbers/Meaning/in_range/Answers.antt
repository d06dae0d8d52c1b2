-- `Meaning::in_range` meets its contract, by the two meanings and the tests that led to each return. Assumes nothing.
use Rattle.std.proofs.Common.{le-ltb, lt-ltb, le-leb}
use borrow.Author.Tests.{lt-leb}
use Rattle.bits.specs.Encoded.{meaning_of}
use Rattle.bits.specs.Numbers.{in_range}
use Rattle.bits.proofs.numbers.Meaning.in_range.Goals as goal

pub returns-then-least-number : goal.returns-then-least-number
unfolding in_range meaning_of
returns-then-least-number c = rw (c.in-Plus.is, ← c.from-number.ensures, ← c.from-least.ensures, ← c.power.ensures, le-leb _ _ c.if-least-number.true)

pub returns-else-least-number : goal.returns-else-least-number
unfolding in_range meaning_of
returns-else-least-number c = rw (c.in-Plus.is, ← c.from-number.ensures, ← c.from-least.ensures, lt-leb _ _ c.if-least-number.false)

pub returns-then-start-number : goal.returns-then-start-number
unfolding in_range meaning_of
returns-then-start-number c =
    rw (c.in-EndOfLast.is, ← c.from-number.ensures, ← c.from-start.ensures, ← c.power-then-start-number.ensures, lt-ltb _ _ c.if-start-number.true)

pub returns-else-start-number : goal.returns-else-start-number
unfolding in_range meaning_of
returns-else-start-number c = rw (c.in-EndOfLast.is, ← c.from-number.ensures, ← c.from-start.ensures, le-ltb _ _ c.if-start-number.false)
