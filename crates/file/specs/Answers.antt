-- 01, 'Accesses and replies': the number and the value of each answer.
-- Assumes nothing.
use Rattle.std.specs.Prelude.{ℕ, Bool, false, ◌||◌, List, [], ◌∷◌, eqb, leb}
use Rattle.file.specs.declared.answer.Answer.{Answer}
use Rattle.file.specs.declared.answer.Answer.TheVariants.{Done, NoRegister, Malformed, SpaceOff, NotHeld, OtherHalf, WrongWidth, ReadOnly, Locked, PaletteDown, OutOfRange, ShortBuffer, NotSound, NotBeforeRed, OtherChip, OtherDirection, InsideWider}

-- 01's table of codes; 02, 2/13: '4 now means nothing there, 16 other direction only, 17 inside a wider register'; 02, 6/13: '15, a restore between
-- different chips'; 02, 9/13: '14 is unused'
unfoldable pub code_of : Answer → ℕ
code_of (Done value) = 0
code_of NoRegister = 1
code_of Malformed = 2
code_of SpaceOff = 3
code_of NotHeld = 4
code_of OtherHalf = 5
code_of WrongWidth = 6
code_of ReadOnly = 7
code_of Locked = 8
code_of PaletteDown = 9
code_of OutOfRange = 10
code_of ShortBuffer = 11
code_of NotSound = 12
code_of NotBeforeRed = 13
code_of OtherChip = 15
code_of OtherDirection = 16
code_of InsideWider = 17

-- 'The reply's value is what was read if the code is 0 and it is a read, else 0': a write's `Done` has 0, and so has that of lines that pass (02, 10/13)
unfoldable pub value_of : Answer → ℕ
value_of (Done value) = value
value_of NoRegister = 0
value_of Malformed = 0
value_of SpaceOff = 0
value_of NotHeld = 0
value_of OtherHalf = 0
value_of WrongWidth = 0
value_of ReadOnly = 0
value_of Locked = 0
value_of PaletteDown = 0
value_of OutOfRange = 0
value_of ShortBuffer = 0
value_of NotSound = 0
value_of NotBeforeRed = 0
value_of OtherChip = 0
value_of OtherDirection = 0
value_of InsideWider = 0

-- 'Codes from 2 up leave the file as given and lent bytes as found'; 'Code 1 is no refusal'
unfoldable pub refused : Answer → Bool
refused a = leb 2 (code_of a)

-- a code is one of these
unfoldable pub among : List ℕ → ℕ → Bool
among [] n = false
among (code ∷ codes) n = eqb n code || among codes n

-- an answer's code is
unfoldable pub one_of : List ℕ → Answer → Bool
unfolding among
one_of codes a = among codes (code_of a)

-- the fixed list: 01's table of codes but for 14 (02, 9/13), 02's 15 (6/13), 16 and 17 (2/13), 18, 19, 21 and 22 of a line (4/13), and 20 of a short plan (11/13)
unfoldable pub listed : List ℕ
listed = 0 ∷ 1 ∷ 2 ∷ 3 ∷ 4 ∷ 5 ∷ 6 ∷ 7 ∷ 8 ∷ 9 ∷ 10 ∷ 11 ∷ 12 ∷ 13 ∷ 15 ∷ 16 ∷ 17 ∷ 18 ∷ 19 ∷ 20 ∷ 21 ∷ 22 ∷ []

unfoldable pub is_listed : Answer → Bool
is_listed a = one_of listed a
