-- 02, 4/13: 'write one from a file, a name and a clock', with the clock in MHz as a line has it. The form of a clock is the line's, so it is asked of a line.
-- Assumes nothing.
use Rattle.std.specs.Prelude.{ℕ, List, [], ◌∷◌, ◌++◌, ◌≡◌, Result, Ok, Err}
use Rattle.file.specs.declared.registers.File.{File}
use Rattle.file.specs.Readers.{ascii}
use Rattle.modes.specs.declared.mode.Mode.{Mode}
use Rattle.mode_file.specs.declared.verdict.Verdict.{Verdict}
use Rattle.modes.specs.Form.{header}
use Rattle.modes.specs.Promises.{Told}
use Rattle.mode_text.specs.Out.{WroteFrom}

-- a line with this name and this clock
unfoldable pub clock_line : List ℕ → List ℕ → List ℕ
unfolding ascii
clock_line name mhz = header ++ name ++ (0x22 ∷ 0x20 ∷ []) ++ mhz ++ ascii " 0 0 0 0 0 0 0 0"

unfoldable pub khz_said : Result Mode ℕ → ℕ
khz_said (Ok mode) = mode.khz
khz_said (Err place) = 0

-- the kHz that it says; 0 where it is no good line
pub record ClockSaid (name mhz : List ℕ) (khz : ℕ) : Type 0 where
  pub parsed : Result Mode ℕ
  pub told : Told (clock_line name mhz) parsed
  pub says : khz ≡ khz_said parsed

-- the file's line with the name and that clock
pub record LineOf (f : File) (name mhz before after : List ℕ) (r : Result ℕ Verdict) : Type 0 where
  pub khz : ℕ
  pub said : ClockSaid name mhz khz
  pub wrote : WroteFrom f name khz before after r
