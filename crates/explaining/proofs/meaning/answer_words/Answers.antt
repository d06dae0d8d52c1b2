-- `meaning::answer_words` meets its contract. Assumes nothing.
use Rattle.file.specs.Readers.{ascii}
use Rattle.explaining.specs.Words.{answer_words}
use Rattle.explaining.proofs.meaning.answer_words.Goals as goal

pub returns-in-Done : goal.returns-in-Done
unfolding answer_words ascii
returns-in-Done c = rw (c.in-Done.is, c.done_words.ensures)

pub returns-in-NoRegister : goal.returns-in-NoRegister
unfolding answer_words ascii
returns-in-NoRegister c = rw (c.in-NoRegister.is, c.code_words.ensures)

pub returns-in-Malformed : goal.returns-in-Malformed
unfolding answer_words ascii
returns-in-Malformed c = rw (c.in-Malformed.is, c.malformed_words.ensures)

pub returns-in-SpaceOff : goal.returns-in-SpaceOff
unfolding answer_words ascii
returns-in-SpaceOff c = rw (c.in-SpaceOff.is, c.off_words.ensures)

pub returns-in-NotHeld : goal.returns-in-NotHeld
unfolding answer_words ascii
returns-in-NotHeld c = rw (c.in-NotHeld.is, c.code_words-in-NotHeld.ensures)

pub returns-in-OtherHalf : goal.returns-in-OtherHalf
unfolding answer_words ascii
returns-in-OtherHalf c = rw (c.in-OtherHalf.is, c.half_words.ensures)

pub returns-in-WrongWidth : goal.returns-in-WrongWidth
unfolding answer_words ascii
returns-in-WrongWidth c = rw (c.in-WrongWidth.is, c.width_words.ensures)

pub returns-in-ReadOnly : goal.returns-in-ReadOnly
unfolding answer_words ascii
returns-in-ReadOnly c = rw (c.in-ReadOnly.is, c.code_words-in-ReadOnly.ensures)

pub returns-in-Locked : goal.returns-in-Locked
unfolding answer_words ascii
returns-in-Locked c = rw (c.in-Locked.is, c.code_words-in-Locked.ensures)

pub returns-in-PaletteDown : goal.returns-in-PaletteDown
unfolding answer_words ascii
returns-in-PaletteDown c = rw (c.in-PaletteDown.is, c.down_words.ensures)

pub returns-in-OutOfRange : goal.returns-in-OutOfRange
unfolding answer_words ascii
returns-in-OutOfRange c = rw (c.in-OutOfRange.is, c.phrase.ensures, c.none.ensures)

pub returns-in-ShortBuffer : goal.returns-in-ShortBuffer
unfolding answer_words ascii
returns-in-ShortBuffer c = rw (c.in-ShortBuffer.is, c.phrase-in-ShortBuffer.ensures, c.none-in-ShortBuffer.ensures)

pub returns-in-NotSound : goal.returns-in-NotSound
unfolding answer_words ascii
returns-in-NotSound c = rw (c.in-NotSound.is, c.code_words-in-NotSound.ensures)

pub returns-in-NotBeforeRed : goal.returns-in-NotBeforeRed
unfolding answer_words ascii
returns-in-NotBeforeRed c = rw (c.in-NotBeforeRed.is, c.phrase-in-NotBeforeRed.ensures, c.none-in-NotBeforeRed.ensures)

pub returns-in-OtherChip : goal.returns-in-OtherChip
unfolding answer_words ascii
returns-in-OtherChip c = rw (c.in-OtherChip.is, c.phrase-in-OtherChip.ensures, c.none-in-OtherChip.ensures)

pub returns-in-OtherDirection : goal.returns-in-OtherDirection
unfolding answer_words ascii
returns-in-OtherDirection c = rw (c.in-OtherDirection.is, c.direction_words.ensures)

pub returns-in-InsideWider : goal.returns-in-InsideWider
unfolding answer_words ascii
returns-in-InsideWider c = rw (c.in-InsideWider.is, c.inside_words.ensures)
