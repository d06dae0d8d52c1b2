-- `Answer::code` meets its contract: each arm gives 01's number of its case. Assumes nothing.
use Rattle.file.specs.Answers.{code_of}
use Rattle.file.proofs.answer.Answer.code.Goals as goal

pub returns-in-Done : goal.returns-in-Done
unfolding code_of
returns-in-Done c = rw c.in-Done.is

pub returns-in-NoRegister : goal.returns-in-NoRegister
unfolding code_of
returns-in-NoRegister c = rw c.in-NoRegister.is

pub returns-in-Malformed : goal.returns-in-Malformed
unfolding code_of
returns-in-Malformed c = rw c.in-Malformed.is

pub returns-in-SpaceOff : goal.returns-in-SpaceOff
unfolding code_of
returns-in-SpaceOff c = rw c.in-SpaceOff.is

pub returns-in-NotHeld : goal.returns-in-NotHeld
unfolding code_of
returns-in-NotHeld c = rw c.in-NotHeld.is

pub returns-in-OtherHalf : goal.returns-in-OtherHalf
unfolding code_of
returns-in-OtherHalf c = rw c.in-OtherHalf.is

pub returns-in-WrongWidth : goal.returns-in-WrongWidth
unfolding code_of
returns-in-WrongWidth c = rw c.in-WrongWidth.is

pub returns-in-ReadOnly : goal.returns-in-ReadOnly
unfolding code_of
returns-in-ReadOnly c = rw c.in-ReadOnly.is

pub returns-in-Locked : goal.returns-in-Locked
unfolding code_of
returns-in-Locked c = rw c.in-Locked.is

pub returns-in-PaletteDown : goal.returns-in-PaletteDown
unfolding code_of
returns-in-PaletteDown c = rw c.in-PaletteDown.is

pub returns-in-OutOfRange : goal.returns-in-OutOfRange
unfolding code_of
returns-in-OutOfRange c = rw c.in-OutOfRange.is

pub returns-in-ShortBuffer : goal.returns-in-ShortBuffer
unfolding code_of
returns-in-ShortBuffer c = rw c.in-ShortBuffer.is

pub returns-in-NotSound : goal.returns-in-NotSound
unfolding code_of
returns-in-NotSound c = rw c.in-NotSound.is

pub returns-in-NotBeforeRed : goal.returns-in-NotBeforeRed
unfolding code_of
returns-in-NotBeforeRed c = rw c.in-NotBeforeRed.is

pub returns-in-OtherChip : goal.returns-in-OtherChip
unfolding code_of
returns-in-OtherChip c = rw c.in-OtherChip.is

pub returns-in-OtherDirection : goal.returns-in-OtherDirection
unfolding code_of
returns-in-OtherDirection c = rw c.in-OtherDirection.is

pub returns-in-InsideWider : goal.returns-in-InsideWider
unfolding code_of
returns-in-InsideWider c = rw c.in-InsideWider.is
