-- 01, the table of codes and 'Access checks run 12, 2, 3, 4, 5, 6, then 1 or 7 or 8 or 9'; 02, 2/13, 'Code 4 is too coarse', and 10/13, 'Let lines pass in a
-- trace'.
-- Assumes nothing.
use Rattle.std.specs.Prelude.{ℕ, ◌/◌, ◌%◌, ◌^◌, Bool, true, false, cond, not, ◌&&◌, ◌||◌, List, [], ◌∷◌, eqb, leb, ltb}
use Rattle.std.proofs.Math.Option.{Option, none, some}
use Rattle.bits.specs.Store.{bit}
use Rattle.file.specs.declared.answer.Answer.{Answer}
use Rattle.file.specs.declared.answer.Answer.TheVariants.{Malformed, SpaceOff, NotHeld, OtherHalf, WrongWidth, NotSound, OtherDirection, InsideWider}
use Rattle.file.specs.declared.registers.File.{File}
use Rattle.file.specs.File.{register}
use Rattle.file.specs.Names.{MISC, PCI04}
use Rattle.file.specs.Sound.{sound}
use Rattle.access.specs.declared.record.Record.{Record}
use Rattle.places.specs.Lookup.{is_one_of, row_at, other_way, held_in, inside_in}
use Rattle.places.specs.Places.{Row, places}

-- 'byte 0 kind (0 config read, 1 config write, 2 port read, 3 port write, 4 MMIO read, 5 MMIO write)'
unfoldable pub is_write : Record → Bool
is_write r = eqb (r.kind % 2) 1

-- 02, 10/13, 'Add kind 6: .. that many scanlines pass'
unfoldable pub is_passing : Record → Bool
is_passing r = eqb r.kind 6

-- 01's kinds, 0 to 5: an ordinary access, as demand 3 has it of a plan
unfoldable pub ordinary : Record → Bool
ordinary r = ltb r.kind 6

-- a record that brings its place a value: a write, or lines that pass
unfoldable pub carries : Record → Bool
carries r = is_write r || is_passing r

unfoldable pub is_port : Record → Bool
is_port r = eqb (r.kind / 2) 1

unfoldable pub is_mmio : Record → Bool
is_mmio r = eqb (r.kind / 2) 2

-- code 12
unfoldable pub not_sound : File → Record → Bool
not_sound f r = not (sound f)

-- 'width not 1 or 2; a write's value that doesn't fit the width; a read's value not 0'
unfoldable pub bad_access : Record → Bool
bad_access r =
    not (eqb r.width 1 || eqb r.width 2) || cond (is_write r) (leb (256 ^ r.width) r.value) (not (eqb r.value 0))

-- 02, 10/13: other than 'kind 6: width 2, address 0, value 1 to 65,535'
unfoldable pub bad_passing : Record → Bool
bad_passing r = not (eqb r.width 2 && eqb r.address 0 && leb 1 r.value && leb r.value 65535)

-- code 2: 'kind over 5', by 02, 10/13 '2 for a kind 6 record of another form, and for kinds over 6'
unfoldable pub malformed : File → Record → Bool
malformed f r = ltb 6 r.kind || cond (is_passing r) (bad_passing r) (bad_access r)

-- code 3: 'port access with PCI04[0]=0, or MMIO access with PCI04[1]=0'; 02, 10/13: kind 6 'needs no space enabled'
unfoldable pub space_off : File → Record → Bool
space_off f r =
    is_port r && eqb (bit 0 (register f PCI04)) 0 || is_mmio r && eqb (bit 1 (register f PCI04)) 0

-- 'address not held in that space and direction': behind 16 and 17 in `checks` what is left of it is code 4, 02, 2/13: '4 now means nothing there'
unfoldable pub no_row : Option Row → Bool
no_row none = true
no_row (some row) = false

unfoldable pub not_held : File → Record → Bool
not_held f r = no_row (row_at f r.kind r.address)

-- codes 16 and 17, of addresses that are not held; 02, 2/13: 'the address is held in the other direction only; it falls inside a wider register'
unfoldable pub other_direction : File → Record → Bool
other_direction f r = not_held f r && held_in (places f.state.chip) (other_way r.kind) r.address

unfoldable pub inside_wider : File → Record → Bool
inside_wider f r = not_held f r && inside_in (places f.state.chip) r.kind r.address

-- code 5: '3B4h/3B5h/3BAh while MISC[0]=1, or 3D4h/3D5h/3DAh while it is 0'
unfoldable pub of_other_half : File → Record → Bool
of_other_half f r =
    is_port r
    && (is_one_of (0x3B4 ∷ 0x3B5 ∷ 0x3BA ∷ []) r.address && eqb (bit 0 (register f MISC)) 1
    || is_one_of (0x3D4 ∷ 0x3D5 ∷ 0x3DA ∷ []) r.address && eqb (bit 0 (register f MISC)) 0)

-- code 6: 'width is not the register's (all ports: 1)'
unfoldable pub other_width : ℕ → Option Row → Bool
other_width width none = false
other_width width (some row) = not (eqb row.width width)

unfoldable pub wrong_width : File → Record → Bool
wrong_width f r = other_width r.width (row_at f r.kind r.address)

-- one check: the answer, and when it is given
pub record Check : Type 0 where
  pub answer : Answer
  pub refuses : File → Record → Bool

abbrev check : Answer → (File → Record → Bool) → Check
check answer refuses = record { answer = answer; refuses = refuses }

-- 'Access checks run 12, 2, 3, 4, 5, 6': the checks that every record passes before its place is asked. 02, 2/13: at 4's place '16 is tested before 17
-- and 17 before 4'
unfoldable pub checks : List Check
checks =
    check NotSound not_sound
    ∷ check Malformed malformed
    ∷ check SpaceOff space_off
    ∷ check OtherDirection other_direction
    ∷ check InsideWider inside_wider
    ∷ check NotHeld not_held
    ∷ check OtherHalf of_other_half
    ∷ check WrongWidth wrong_width
    ∷ []

-- the answer of the first check of a list that refuses, else another
unfoldable pub first_refusal : List Check → File → Record → Answer → Answer
first_refusal [] f r otherwise = otherwise
first_refusal (c ∷ cs) f r otherwise = cond (c.refuses f r) c.answer (first_refusal cs f r otherwise)
