-- `Meaning::meant` meets its contract, by the two meanings. Assumes nothing.
use Rattle.bits.specs.Encoded.{meaning_of}
use Rattle.bits.specs.Numbers.{meant}
use Rattle.bits.proofs.numbers.Meaning.meant.Goals as goal

pub returns-in-Plus : goal.returns-in-Plus
unfolding meant meaning_of
returns-in-Plus c = rw (c.in-Plus.is, c.from.ensures)

pub returns-in-EndOfLast : goal.returns-in-EndOfLast
unfolding meant meaning_of
returns-in-EndOfLast c = rw c.in-EndOfLast.is c.end_after.ensures
