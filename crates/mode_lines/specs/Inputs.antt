-- 02, 4/13: an input as a whole: its lines, and their reports as parts give them.
-- Assumes nothing.
use Rattle.std.specs.Prelude.{ℕ, cond, List, [], ◌∷◌, ◌++◌, ◌≡◌, eqb, length, take}
use Rattle.file.specs.declared.registers.File.{File}
use Rattle.mode_lines.specs.declared.parts.Progress.{Progress}
use Rattle.mode_lines.specs.Parts.{PartReported, Reports}

-- the lines that a newline ends, without it, and what stands behind the last
pub record Input : Type 0 where
  pub lines : List (List ℕ)
  pub begun : List ℕ

unfoldable pub on_byte : Input → ℕ → Input
on_byte i b =
    cond (eqb b 0x0A) (record { lines = i.lines ++ i.begun ∷ []; begun = [] }) (record { lines = i.lines; begun = i.begun ++ b ∷ [] })

-- more of it
unfoldable pub on : Input → List ℕ → Input
on i [] = i
on i (b ∷ s) = on (on_byte i b) s

unfoldable pub input_of : List ℕ → Input
input_of bytes = on (record { lines = []; begun = [] }) bytes

-- an input that came in parts, and the reports of them, one behind the other: what is left of a part comes again. The number of the line at hand, and
-- what is kept of it
pub data InParts (f : File) : List ℕ → List ℕ → ℕ → ℕ → List ℕ → Type 0 where
  nothing : (kept : List ℕ) → length kept ≡ 256 → InParts f [] [] 0 0 kept
  more : {bytes text : List ℕ} {number count : ℕ} {kept : List ℕ} (part kept' reports₀ reports : List ℕ) (r : Progress)
      → InParts f bytes text number count kept → PartReported f number count part kept kept' reports₀ reports r
      → InParts f (bytes ++ take r.used part) (text ++ take r.end reports) r.number r.count kept'

-- what is reported are the input's lines, each by all of it; what is kept is the beginning of the line behind them
pub record AllReported (f : File) (bytes text : List ℕ) (number count : ℕ) (kept : List ℕ) : Type 0 where
  pub reported : Reports f 0 (input_of bytes).lines text
  pub numbered : number ≡ length (input_of bytes).lines
  pub begun : take count kept ≡ take 256 (input_of bytes).begun
