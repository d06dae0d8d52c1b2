-- 01, 'Accesses and replies', 02, 6/13 and 9/13: what a plan and a restore answer.
-- Assumes nothing.
use Rattle.std.specs.Prelude.{ℕ, cond, Result, Ok, Err, eqb, leb}
use Rattle.file.specs.declared.answer.Answer.{Answer}
use Rattle.file.specs.declared.answer.Answer.TheVariants.{Done, ShortBuffer, NotSound, NotBeforeRed, OtherChip}
use Rattle.file.specs.declared.registers.File.{File}
use Rattle.file.specs.Chips.{same_chip}
use Rattle.file.specs.Sound.{sound}

-- what a result answers: that it is done, or its refusal
abbrev pub answer_of : {A : Type 0} → Result A Answer → Answer
answer_of (Ok told) = Done 0
answer_of (Err a) = a

-- 'Plan: 12, 13, 11', by the wanted file and the length of the buffer
unfoldable pub plan_answer : File → ℕ → Answer
plan_answer w room =
    cond (sound w) (cond (eqb w.state.pointer.next 0) (cond (leb 8192 room) (Done 0) ShortBuffer) NotBeforeRed) NotSound

-- 'A restore takes a current file (checked first), a wanted file and a buffer, writes the plan and runs it: 12, 13, 11'; 02, 6/13: '15, a restore
-- between different chips, after 12 and before 13'; 02, 9/13: '14 is unused; the order is otherwise the same'
unfoldable pub restore_answer : File → File → ℕ → Answer
restore_answer f w room =
    cond (sound f) (cond (sound w) (cond (same_chip f.state.chip w.state.chip) (plan_answer w room) OtherChip) NotSound) NotSound
