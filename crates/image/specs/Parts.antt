-- For a host in C: a file as its host owns it. The registers are words; the rest are bytes: ten of the state, then palette and bank. A set is a byte for each thing that it
-- may name.
-- Assumes nothing.
use Rattle.std.specs.Prelude.{ℕ, ◌+◌, ◌*◌, ◌/◌, ◌%◌, Bool, cond, ◌&&◌, List, [], ◌∷◌, ◌++◌, eqb, leb, get_or, take, drop}
use Rattle.file.specs.declared.chip.Chip.{Chip}
use Rattle.file.specs.declared.chip.Chip.TheVariants.{Gd5462, Gd5464}
use Rattle.file.specs.declared.registers.File.{File}
use Rattle.file.specs.declared.state.State.{State}
use Rattle.file.specs.Sound.{sound}
use Rattle.touched.specs.declared.set.Touched.{Touched}
use Rattle.image.specs.Bytes.{colour_bytes, colours_in, flag_byte, is_set, flag_bytes, flags_in}

-- a chip's number, and back
unfoldable pub chip_byte : Chip → ℕ
chip_byte Gd5462 = 0
chip_byte Gd5464 = 1

unfoldable pub chip_in : ℕ → Chip
chip_in byte = cond (eqb byte 0) Gd5462 Gd5464

-- the ten bytes of a state: the line with its low byte first, the pointer's address, whether it reads, its next colour, held red and green; marks, toggle, chip
unfoldable pub state_bytes : State → List ℕ
state_bytes s =
    s.line % 256
    ∷ s.line / 256
    ∷ s.pointer.address
    ∷ flag_byte s.pointer.reading
    ∷ s.pointer.next
    ∷ s.pointer.red
    ∷ s.pointer.green
    ∷ s.marks
    ∷ flag_byte s.toggle
    ∷ chip_byte s.chip
    ∷ []

-- the state that the first ten bytes of a rest say
unfoldable pub state_in : List ℕ → State
state_in rest =
    record {
      line = get_or rest 0 0 + 256 * get_or rest 1 0;
      pointer =
          record {
            address = get_or rest 2 0;
            reading = is_set (get_or rest 3 0);
            next = get_or rest 4 0;
            red = get_or rest 5 0;
            green = get_or rest 6 0;
          };
      marks = get_or rest 7 0;
      toggle = is_set (get_or rest 8 0);
      chip = chip_in (get_or rest 9 0);
    }

-- mode, toggle and chip are 0 or 1, so that the rest is what a state is written as
unfoldable pub fits_in : List ℕ → Bool
fits_in rest = leb (get_or rest 3 0) 1 && leb (get_or rest 8 0) 1 && leb (get_or rest 9 0) 1

-- where palette and bank begin, and how many bytes a rest has
abbrev pub palette_at : ℕ
palette_at = 10

abbrev pub bank_at : ℕ
bank_at = 778

abbrev pub rest_count : ℕ
rest_count = 826

-- a file's rest, and the file of registers and a rest
unfoldable pub rest_of : File → List ℕ
rest_of f = state_bytes f.state ++ colour_bytes f.palette ++ colour_bytes f.bank

unfoldable pub held_in : List ℕ → List ℕ → File
held_in registers rest =
    record {
      registers = registers;
      palette = colours_in (take 768 (drop palette_at rest));
      bank = colours_in (take 48 (drop bank_at rest));
      state = state_in rest;
    }

-- registers and a rest that are a sound file's
unfoldable pub sound_in : List ℕ → List ℕ → Bool
sound_in registers rest = fits_in rest && sound (held_in registers rest)

-- a set's bytes, and the set of bytes: registers, palette, bank, then pointer, marks and toggle
abbrev pub set_count : ℕ
set_count = 383

unfoldable pub set_bytes : Touched → List ℕ
set_bytes s = flag_bytes s.registers ++ flag_bytes s.palette ++ flag_bytes s.bank ++ flag_bytes (s.pointer ∷ s.marks ∷ s.toggle ∷ [])

unfoldable pub set_in : List ℕ → Touched
set_in bytes =
    record {
      registers = flags_in (take 108 bytes);
      palette = flags_in (take 256 (drop 108 bytes));
      bank = flags_in (take 16 (drop 364 bytes));
      pointer = is_set (get_or bytes 380 0);
      marks = is_set (get_or bytes 381 0);
      toggle = is_set (get_or bytes 382 0);
    }
