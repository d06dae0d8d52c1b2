-- 02, 4/13: what the program reports of a line.
-- Assumes nothing.
use Rattle.std.specs.Prelude.{ℕ, ◌+◌, ◌/◌, ◌%◌, cond, List, [], ◌∷◌, ◌++◌, leb, length, Result, Ok, Err}
use Rattle.file.specs.declared.answer.Answer.{Answer}
use Rattle.file.specs.declared.answer.Answer.TheVariants.{Done, ShortBuffer}
use Rattle.file.specs.declared.registers.File.{File}
use Rattle.file.specs.File.{register}
use Rattle.file.specs.Names.{MISC}
use Rattle.text.specs.declared.placed.Placed.{Placed}
use Rattle.text.specs.Lent.{Lined}
use Rattle.text.specs.Text.{capital, decimal, newline, space, spaced}
use Rattle.timing.specs.Timing.{numbers_of, read_timing}
use Rattle.mode_file.specs.declared.into.ReadLine.{ReadLine}
use Rattle.mode_file.specs.Into.{ReadInto}
use Rattle.mode_file.specs.Verdicts.{code_said, position_said}
use Rattle.mode_file.specs.declared.into.LineSaid.{LineSaid}
use Rattle.mode_file.specs.declared.verdict.Verdict.{Verdict}

-- the low byte in two hex digits, capitals
unfoldable pub hex_two : ℕ → List ℕ
hex_two n = capital (n / 16 % 16) ∷ capital (n % 16) ∷ []

-- the kHz, MISC and the fifteen timing numbers of the file with the mode, each behind a space
unfoldable pub mode_text : ℕ → File → List ℕ
mode_text khz f = space ++ decimal khz ++ (space ++ hex_two (register f MISC)) ++ spaced [] (numbers_of (read_timing f).timing)

-- the line's number, the code and the position, one space between
unfoldable pub front : ℕ → ℕ → ℕ → List ℕ
front number code position = decimal number ++ (space ++ decimal code) ++ (space ++ decimal position)

-- what a line that was read left
unfoldable pub left_text : Result LineSaid Verdict → File → List ℕ
left_text (Ok said) f = mode_text said.khz f
left_text (Err v) f = []

-- the line's number, the code, the position, and where the code is 0 what it left, one space between
unfoldable pub report_line : ℕ → ReadLine → List ℕ
report_line number r = (front number (code_said r.said) (position_said r.said) ++ left_text r.said r.file) ++ newline

-- a report has at most so many bytes: as many are asked for
unfoldable pub report_most : ℕ
report_most = 256

-- 01's table of codes: 11, a short buffer
unfoldable pub report_answer : List ℕ → ℕ → Answer
report_answer buffer at = cond (leb (at + report_most) (length buffer)) (Done 0) ShortBuffer

-- the line is read into the file, and this is reported of it: what comes back, and what the buffer holds
pub record Reported (line : List ℕ) (f : File) (number at : ℕ) (before after : List ℕ) (r : Placed) : Type 0 where
  pub read : ReadLine
  pub into : ReadInto line f read
  pub lined : Lined (report_answer before at) at (report_line number read) before after r
