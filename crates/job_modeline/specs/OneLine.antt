-- The end of the command `modeline --of`: the line of a file, with a name and a clock, and what is told where there is none.
-- Assumes nothing.
use Rattle.std.specs.Prelude.{ℕ, cond, List, ◌++◌, ◌≡◌, eqb, length, drop, Result, Ok, Err}
use Rattle.file.specs.declared.registers.File.{File}
use Rattle.file.specs.Readers.{ascii}
use Rattle.text.specs.declared.placed.Placed.{Placed}
use Rattle.text.specs.Lent.{Lined, room_answer}
use Rattle.text.specs.Text.{newline}
use Rattle.mode_file.specs.declared.verdict.Verdict.{Verdict}
use Rattle.mode_text.specs.Out.{done, line_out, write_verdict}
use Rattle.mode_lines.specs.ClockLine.{ClockSaid}

-- the line and a newline
unfoldable pub line_with : File → List ℕ → ℕ → List ℕ
line_with f name khz = line_out f name khz ++ newline

-- where a text ends that is put if nothing is refused
unfoldable pub text_end : List ℕ → Result ℕ Verdict → Result ℕ Verdict
text_end text (Ok size) = Ok (length text)
text_end text (Err v) = Err v

-- it is asked for, with the clock that is said in MHz: the line from the buffer's start on and where it ends, or the refusal and nothing
pub record LinePut (f : File) (name mhz out₀ out : List ℕ) (r : Result ℕ Verdict) : Type 0 where
  pub khz : ℕ
  pub said : ClockSaid name mhz khz
  pub answered : r ≡ text_end (line_with f name khz) (write_verdict f name khz (length out₀))
  pub stored : out ≡ cond (done r) (line_with f name khz ++ drop (length (line_with f name khz)) out₀) out₀

-- a text from a place of the buffer on, if it has room
abbrev pub Told : List ℕ → ℕ → List ℕ → List ℕ → Placed → Type 0
Told text at before after r = Lined (room_answer before at text) at text before after r

unfoldable pub no_line_text : ℕ → List ℕ
no_line_text code =
    cond (eqb code 21) (ascii "21: the timing isn't that of a modeline")
    (cond (eqb code 22) (ascii "22: the name or the clock is out of form") (ascii "12: the file isn't sound"))

unfoldable pub no_line_line : ℕ → List ℕ
no_line_line code = ascii "sedgecoil: no line, code " ++ no_line_text code ++ newline
