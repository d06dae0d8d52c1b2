-- 02, 11/13: 'the set of exactly those registers, palette entries, pointer, marks and toggle': what a set may name, and how much it does.
-- Assumes nothing.
use Rattle.std.specs.Prelude.{ℕ, ◌+◌, Bool, true, false, cond, List, [], ◌∷◌, ◌≡◌, eqb, ltb, get_or, length, replicate}
use Rattle.file.specs.File.{palette_count, bank_count}
use Rattle.file.specs.Registers.{register_count}
use Rattle.touched.specs.declared.set.Touched.{Touched}

-- a register, an entry of the palette or of the bank, each by its number; the pointer, the marks, the toggle. The chip never changes, and 'The line
-- stays outside'
pub data Thing : Type 0 where
  a_register in_palette in_bank : ℕ → Thing
  the_pointer the_marks the_toggle : Thing

-- a file has it
unfoldable pub there : Thing → Bool
there (a_register n) = ltb n register_count
there (in_palette n) = ltb n palette_count
there (in_bank n) = ltb n bank_count
there the_pointer = true
there the_marks = true
there the_toggle = true

-- a set names it
unfoldable pub names : Touched → Thing → Bool
names s (a_register n) = get_or s.registers n false
names s (in_palette n) = get_or s.palette n false
names s (in_bank n) = get_or s.bank n false
names s the_pointer = s.pointer
names s the_marks = s.marks
names s the_toggle = s.toggle

-- what a set is by its type: a mark for each thing that a file has
pub record IsSet (s : Touched) : Type 0 where
  pub registers : length s.registers ≡ register_count
  pub palette : length s.palette ≡ palette_count
  pub bank : length s.bank ≡ bank_count

-- 'Right after a restore the set is empty', and where a file is saved or new
unfoldable pub nothing : Touched
nothing =
    record {
      registers = replicate register_count false;
      palette = replicate palette_count false;
      bank = replicate bank_count false;
      pointer = false;
      marks = false;
      toggle = false;
    }

-- '4 more for each register, palette entry, pointer, marks or toggle that the set names': how many these are
unfoldable pub one : Bool → ℕ
one named = cond named 1 0

unfoldable pub many : List Bool → ℕ
many [] = 0
many (named ∷ more) = one named + many more

unfoldable pub size : Touched → ℕ
size s = many s.registers + many s.palette + many s.bank + one s.pointer + one s.marks + one s.toggle

unfoldable pub is_empty : Touched → Bool
is_empty s = eqb (size s) 0
