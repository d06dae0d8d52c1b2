-- `Meaning::stored_for` meets its contract, by the two meanings. Assumes nothing.
use Rattle.bits.specs.Encoded.{meaning_of}
use Rattle.bits.specs.Numbers.{stored_for}
use Rattle.bits.proofs.numbers.Meaning.stored_for.Goals as goal

pub returns-in-Plus : goal.returns-in-Plus
unfolding stored_for meaning_of
returns-in-Plus c = rw c.in-Plus.is (rw (← c.from.ensures) c.saturating_sub.ensures)

pub returns-in-EndOfLast : goal.returns-in-EndOfLast
unfolding stored_for meaning_of
returns-in-EndOfLast c = rw c.in-EndOfLast.is
