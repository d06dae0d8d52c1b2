-- 02, 4/13: a line read into a file.
-- Assumes nothing.
use Rattle.std.specs.Prelude.{ℕ, cond, List, ◌≡◌, eqb, length, Result, Ok, Err}
use Rattle.file.specs.declared.registers.File.{File}
use Rattle.file.specs.Answers.{code_of}
use Rattle.file.specs.Effects.{apply}
use Rattle.file.specs.Sound.{sound}
use Rattle.timing.specs.Timing.{timing_answer, with_timing}
use Rattle.modes.specs.declared.mode.Mode.{Mode}
use Rattle.modes.specs.Form.{header}
use Rattle.modes.specs.Promises.{Told}
use Rattle.mode_file.specs.declared.into.LineSaid.{LineSaid}
use Rattle.mode_file.specs.declared.into.ReadLine.{ReadLine}
use Rattle.mode_file.specs.declared.verdict.Verdict.{Verdict}
use Rattle.mode_file.specs.declared.verdict.Verdict.TheVariants.{Locked, OutOfRange, NotSound, BadText, NotMultiple}
use Rattle.mode_file.specs.Said.{eights, flag_store, timing_said}

-- the name stands behind the first quote
unfoldable pub said_of : Mode → LineSaid
said_of m = record { name_start = length header; name_size = m.name; khz = m.khz }

-- a file that has the timing gets the flags
unfoldable pub flagged_line : Mode → File → ReadLine
flagged_line m timed = record { said = Ok (said_of m); file = apply (flag_store m.h_minus m.v_minus) timed }

unfoldable pub done_line : Mode → File → ReadLine
done_line m f = flagged_line m (with_timing (timing_said m.numbers) f)

-- by the timing writer's code
unfoldable pub by_code : ℕ → Mode → File → Result ReadLine Verdict
by_code code m f =
    cond (eqb code 8) (Err Locked) (cond (eqb code 10) (Err OutOfRange) (cond (eqb code 0) (Ok (done_line m f)) (Err NotSound)))

-- '8, 10': the timing writer's
unfoldable pub mode_line : Mode → File → Result ReadLine Verdict
mode_line m f = by_code (code_of (timing_answer f (timing_said m.numbers))) m f

unfoldable pub read_mode : Mode → File → Result ReadLine Verdict
read_mode m f = cond (eights m.numbers) (mode_line m f) (Err NotMultiple)

unfoldable pub read_parsed : Result Mode ℕ → File → Result ReadLine Verdict
read_parsed (Ok m) f = read_mode m f
read_parsed (Err place) f = Err (BadText place)

-- 'Reading tests 12, 18, 19, 8, 10', of what the line told
unfoldable pub read_result : Result Mode ℕ → File → Result ReadLine Verdict
read_result p f = cond (sound f) (read_parsed p f) (Err NotSound)

-- a refusal leaves the file
unfoldable pub refused_line : Verdict → File → ReadLine
refused_line v f = record { said = Err v; file = f }

unfoldable pub answered : Result ReadLine Verdict → File → ReadLine
answered (Ok done) f = done
answered (Err v) f = refused_line v f

unfoldable pub read_with : Result Mode ℕ → File → ReadLine
read_with p f = answered (read_result p f) f

-- the line tells what it says, or its bad place, and that is read into the file
pub record ReadInto (line : List ℕ) (f : File) (r : ReadLine) : Type 0 where
  pub parsed : Result Mode ℕ
  pub told : Told line parsed
  pub answers : r ≡ read_with parsed f
