-- For a host in C: what the calls of a host answer, and what they leave.
-- Assumes nothing.
use Rattle.std.specs.Prelude.{ℕ, cond, List, [], ◌∷◌, Result, Ok, Err, leb, get_or}
use Rattle.file.specs.declared.answer.Answer.{Answer}
use Rattle.file.specs.Answers.{code_of}
use Rattle.image.specs.declared.saving.Loaded.{Loaded}
use Rattle.file.specs.declared.registers.File.{File}
use Rattle.file.specs.File.{power_on}
use Rattle.file.specs.Registers.{register_count}
use Rattle.image.specs.Image.{image_count}
use Rattle.image.specs.Parts.{palette_at, bank_at, rest_count, set_count, chip_in, rest_of}

-- how much of each thing there is: registers, bytes of a rest, of a set and of an image, the image's version, where palette and bank begin in a rest; the numbers of a timing,
-- a cursor, a window, a capture window and a reach
unfoldable pub layout_of : ℕ → ℕ
layout_of what = get_or (register_count ∷ rest_count ∷ set_count ∷ image_count ∷ 1 ∷ palette_at ∷ bank_at ∷ 15 ∷ 6 ∷ 10 ∷ 4 ∷ 9 ∷ []) what 0

-- a code, and the parts of a file as they are left
pub record Left : Type 0 where
  pub code : ℕ
  pub registers : List ℕ
  pub rest : List ℕ

-- a file put behind the references
unfoldable pub leaving : ℕ → File → Left
leaving code f = record { code = code; registers = f.registers; rest = rest_of f }

-- power-on by the chip's number; 2, 'malformed', for a number that is no chip's
unfoldable pub powered_on : ℕ → List ℕ → List ℕ → Left
powered_on chip registers rest = cond (leb chip 1) (leaving 0 (power_on (chip_in chip))) (record { code = 2; registers = registers; rest = rest })

-- what is told of a load: 0, or its refusal's code; the parts of the image, or what stood there
unfoldable pub code_told : Result Loaded Answer → ℕ
code_told (Ok l) = 0
code_told (Err a) = code_of a

unfoldable pub registers_told : Result Loaded Answer → List ℕ → List ℕ
registers_told (Ok l) registers = l.registers
registers_told (Err a) registers = registers

unfoldable pub rest_told : Result Loaded Answer → List ℕ → List ℕ
rest_told (Ok l) rest = l.rest
rest_told (Err a) rest = rest

unfoldable pub set_told : Result Loaded Answer → List ℕ → List ℕ
set_told (Ok l) set = l.set
set_told (Err a) set = set
