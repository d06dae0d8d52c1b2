-- 02, 11/13, 'Refusals: 20, the current file and saved file differ somewhere outside the set, after 13 and before 11': what a short plan answers.
-- Assumes nothing.
use Rattle.std.specs.Prelude.{ℕ, cond, Result, Ok, Err, ⊤, eqb, leb}
use Rattle.file.specs.declared.registers.File.{File}
use Rattle.file.specs.Chips.{same_chip}
use Rattle.file.specs.Sound.{sound}
use Rattle.touched.specs.declared.set.Touched.{Touched}
use Rattle.touched.specs.Outside.{agrees_outside}
use Rattle.plan.specs.declared.short_answer.ShortAnswer.{ShortAnswer}
use Rattle.plan.specs.declared.short_answer.ShortAnswer.TheVariants.{ShortBuffer, NotSound, NotBeforeRed, OtherChip, Elsewhere}

unfoldable pub number_of : ShortAnswer → ℕ
number_of ShortBuffer = 11
number_of NotSound = 12
number_of NotBeforeRed = 13
number_of OtherChip = 15
number_of Elsewhere = 20

-- the number of what is done, or of its refusal: 'accepted means code 0'
unfoldable pub code_of : {A : Type 0} → Result A ShortAnswer → ℕ
code_of (Ok told) = 0
code_of (Err a) = number_of a

-- that it is done, or its refusal, of a result that tells more
abbrev pub done_of : {A : Type 0} → Result A ShortAnswer → Result ⊤ ShortAnswer
done_of (Ok told) = Ok tt
done_of (Err a) = Err a

-- by the current file, the saved one and the set: 12, 15, 13, 20
unfoldable pub without_room : File → File → Touched → Result ⊤ ShortAnswer
without_room f w s =
    cond (sound f)
    (cond (sound w)
    (cond (same_chip f.state.chip w.state.chip)
    (cond (eqb w.state.pointer.next 0) (cond (agrees_outside s f w) (Ok tt) (Err Elsewhere)) (Err NotBeforeRed))
    (Err OtherChip))
    (Err NotSound))
    (Err NotSound)

-- then 11, by the length of the buffer
unfoldable pub with_room : Result ⊤ ShortAnswer → ℕ → Result ⊤ ShortAnswer
with_room (Ok done) room = cond (leb 8192 room) (Ok done) (Err ShortBuffer)
with_room (Err a) room = Err a

-- an empty set too
unfoldable pub short_answer : File → File → Touched → ℕ → Result ⊤ ShortAnswer
short_answer f w s room = with_room (without_room f w s) room
