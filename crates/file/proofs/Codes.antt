-- Every answer is one of 01's list of codes, and which of them the readers of a file give. Assumes nothing.
use Prim.Native.Nat.{ℕ}
use mathlib.Core.Path.{◌≡◌, subst}
use mathlib.Core.Bool.{not}
use mathlib.Core.List.{List, [], ◌∷◌}
use lib.Dec.{T, T_not}
use Rattle.std.specs.Prelude.{Option, Some, None, Result, Ok, Err, ok_or, position, slice_get}
use Rattle.bits.proofs.Test.{chosen}
use Rattle.file.specs.declared.answer.Answer.{Answer}
use Rattle.file.specs.declared.answer.Answer.TheVariants.{Done, NoRegister, Malformed, SpaceOff, NotHeld, OtherHalf, WrongWidth, ReadOnly, Locked, PaletteDown, OutOfRange, ShortBuffer, NotSound, NotBeforeRed, OtherChip, OtherDirection, InsideWider}
use Rattle.file.specs.declared.registers.File.{File}
use Rattle.file.specs.Answers.{code_of, among, one_of, listed, is_listed}
use Rattle.file.specs.Readers.{name_table, same, number_of, if_sound, read_register, read_named, read_number, read_palette, read_bank, read_pointer, read_marks, read_toggle}
use Rattle.file.specs.Sound.{sound}

pub every-listed : (a : Answer) → T (is_listed a)
unfolding is_listed one_of listed code_of
every-listed (Done value) = tt
every-listed NoRegister = tt
every-listed Malformed = tt
every-listed SpaceOff = tt
every-listed NotHeld = tt
every-listed OtherHalf = tt
every-listed WrongWidth = tt
every-listed ReadOnly = tt
every-listed Locked = tt
every-listed PaletteDown = tt
every-listed OutOfRange = tt
every-listed ShortBuffer = tt
every-listed NotSound = tt
every-listed NotBeforeRed = tt
every-listed OtherChip = tt
every-listed OtherDirection = tt
every-listed InsideWider = tt

-- 02, 9/13: '14 is unused': the list has a gap there
pub gap-at-fourteen : T (not (among listed 14))
unfolding among listed
gap-at-fourteen = tt

-- so no answer has that code
pub none-fourteen : (a : Answer) → code_of a ≡ 14 → ⊥
unfolding is_listed one_of
none-fourteen a e = T_not (among listed 14) gap-at-fourteen (subst (λ (n : ℕ). T (among listed n)) e (every-listed a))

-- the code of what is read is 0, and that of a refusal its answer's
unfoldable pub told_code : {A : Type 0} → Result A Answer → ℕ
told_code (Ok told) = 0
told_code (Err answer) = code_of answer

-- what names a register or an entry: 0, 1 or 12
abbrev naming : List ℕ
naming = 0 ∷ 1 ∷ 12 ∷ []

looked-codes : {A : Type 0} (codes : List ℕ) (f : File) (told : Result A Answer) → T (among codes (told_code told)) → T (among codes 12)
    → T (among codes (told_code (if_sound f told)))
unfolding if_sound told_code code_of
looked-codes {A} codes f told t u = chosen (λ (r : Result A Answer). among codes (told_code r)) (sound f) told (Err NotSound) t u

found-codes : {A : Type 0} (found : Option A) → T (among (0 ∷ 1 ∷ 12 ∷ []) (told_code (ok_or found NoRegister)))
unfolding among told_code code_of
found-codes None = tt
found-codes (Some x) = tt

pub register-codes : (f : File) (number : ℕ) → T (among (0 ∷ 1 ∷ 12 ∷ []) (told_code (read_register f number)))
unfolding among read_register
register-codes f number = looked-codes naming f (ok_or (slice_get f.registers number) NoRegister) (found-codes (slice_get f.registers number)) tt

pub named-codes : (f : File) (name : List ℕ) → T (among (0 ∷ 1 ∷ 12 ∷ []) (told_code (read_named f name)))
unfolding read_named
named-codes f name = register-codes f (number_of name)

pub palette-codes : (f : File) (n : ℕ) → T (among (0 ∷ 1 ∷ 12 ∷ []) (told_code (read_palette f n)))
unfolding among read_palette
palette-codes f n = looked-codes naming f (ok_or (slice_get f.palette n) NoRegister) (found-codes (slice_get f.palette n)) tt

pub bank-codes : (f : File) (n : ℕ) → T (among (0 ∷ 1 ∷ 12 ∷ []) (told_code (read_bank f n)))
unfolding among read_bank
bank-codes f n = looked-codes naming f (ok_or (slice_get f.bank n) NoRegister) (found-codes (slice_get f.bank n)) tt

-- pointer, marks and toggle are always there: 0 or 12
pub pointer-codes : (f : File) → T (among (0 ∷ 12 ∷ []) (told_code (read_pointer f)))
unfolding among told_code read_pointer
pointer-codes f = looked-codes (0 ∷ 12 ∷ []) f (Ok f.state.pointer) tt tt

pub marks-codes : (f : File) → T (among (0 ∷ 12 ∷ []) (told_code (read_marks f)))
unfolding among told_code read_marks
marks-codes f = looked-codes (0 ∷ 12 ∷ []) f (Ok _) tt tt

pub toggle-codes : (f : File) → T (among (0 ∷ 12 ∷ []) (told_code (read_toggle f)))
unfolding among told_code read_toggle
toggle-codes f = looked-codes (0 ∷ 12 ∷ []) f (Ok f.state.toggle) tt tt

-- a number by its name asks no file: 0 or 1
pub number-codes : (name : List ℕ) → T (among (0 ∷ 1 ∷ []) (told_code (read_number name)))
unfolding among told_code code_of read_number
number-codes name = of_found (position (λ (row : List ℕ). same row name) name_table)
  where
    of_found : (found : Option ℕ) → T (among (0 ∷ 1 ∷ []) (told_code (ok_or found NoRegister)))
    of_found None = tt
    of_found (Some n) = tt
