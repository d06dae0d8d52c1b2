-- What a host reads of a file without an access. 01, 'Accesses and replies': the readers of a file that is not sound answer 12.
-- Assumes nothing.
use Prim.Native.Char.{code}
use Rattle.std.specs.Prelude.{ℕ, Bool, cond, List, [], ◌∷◌, map, position, slice_get, ok_or, Result, Ok, Err}
use Rattle.std.specs.List.{position_or_len}
use Rattle.std.specs.Str.{bytes_eq}
use Prim.Native.String.{String, [] as empty, ◌∷◌ as ◌then◌}
use Rattle.file.specs.declared.answer.Answer.{Answer}
use Rattle.file.specs.declared.answer.Answer.TheVariants.{NoRegister, NotSound}
use Rattle.file.specs.declared.palette.Colour.{Colour}
use Rattle.file.specs.declared.palette.Pointer.{Pointer}
use Rattle.file.specs.declared.readers.Marks.{Marks}
use Rattle.file.specs.declared.registers.File.{File}
use Rattle.file.specs.Palette.{marked_read, marked_colour}
use Rattle.file.specs.Registers.{Register, registers}
use Rattle.file.specs.Sound.{sound}

-- a text as its bytes
unfoldable pub ascii : String → List ℕ
ascii empty = []
ascii (c then s) = code c ∷ ascii s

-- 01, 'Stored bits', and 02, 6/13: the names of the registers, by their numbers
unfoldable pub name_table : List (List ℕ)
unfolding registers ascii
name_table = map (λ (r : Register). ascii r.name) registers

unfoldable pub same : List ℕ → List ℕ → Bool
same xs ys = bytes_eq xs ys

-- the place of the first row that is the name; the number of rows if none is
unfoldable pub number_of : List ℕ → ℕ
number_of name = position_or_len (λ (row : List ℕ). same row name) name_table

-- what is read of a file if it is sound
unfoldable pub if_sound : {A : Type 0} → File → Result A Answer → Result A Answer
if_sound f told = cond (sound f) told (Err NotSound)

-- 01, 'Stored bits', and 02, 6/13: a register by its number; code 1 as of an index that names no held register
unfoldable pub read_register : File → ℕ → Result ℕ Answer
unfolding if_sound
read_register f number = if_sound f (ok_or (slice_get f.registers number) NoRegister)

-- and by its name
unfoldable pub read_named : File → List ℕ → Result ℕ Answer
read_named f name = read_register f (number_of name)

-- 01, 'Stored bits', and 02, 6/13: a register's number by its name. No file is asked, so no 12
unfoldable pub read_number : List ℕ → Result ℕ Answer
read_number name = ok_or (position (λ (row : List ℕ). same row name) name_table) NoRegister

-- 01, 'The palette pointer': 'a bank of 16 cursor and border colours, else one of 256'
unfoldable pub read_palette : File → ℕ → Result Colour Answer
unfolding if_sound
read_palette f n = if_sound f (ok_or (slice_get f.palette n) NoRegister)

unfoldable pub read_bank : File → ℕ → Result Colour Answer
unfolding if_sound
read_bank f n = if_sound f (ok_or (slice_get f.bank n) NoRegister)

-- 01, 'The palette pointer': 'An address, a mode, a next colour .. and two held bytes'
unfoldable pub read_pointer : File → Result Pointer Answer
unfolding if_sound
read_pointer f = if_sound f (Ok f.state.pointer)

-- 02, 1/13, 'the last 3C9h access, direction and colour'
unfoldable pub read_marks : File → Result Marks Answer
unfolding if_sound
read_marks f = if_sound f (Ok (record { reading = marked_read f.state.marks; colour = marked_colour f.state.marks }))

-- 01, 'Places': the toggle says whether the next 3C0h write is data
unfoldable pub read_toggle : File → Result Bool Answer
unfolding if_sound
read_toggle f = if_sound f (Ok f.state.toggle)
