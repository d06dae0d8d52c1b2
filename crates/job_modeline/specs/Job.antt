-- The job of the command `modeline`: the steps that an input is fed in, and how it is closed.
-- Assumes nothing.
use Rattle.std.specs.Prelude.{ℕ, Bool, cond, List, [], ◌∷◌, ◌++◌, eqb, take}
use Rattle.mode_lines.specs.Inputs.{input_of}
use Rattle.mode_lines.specs.Job.{LinesStep, started}
use Rattle.mode_lines.specs.declared.job.LinesFed.{LinesFed}
use Rattle.mode_lines.specs.declared.job.LinesJob.{LinesJob}

-- the part that closes a job: a newline, if a byte of a line is kept
unfoldable pub closing_part : LinesJob → List ℕ
closing_part job = cond (eqb job.count 0) [] (0x0A ∷ [])

-- an input that was fed in steps, however it was cut: the bytes that were used, the text that was put out, and the job then
pub data InSteps (wide : Bool) : List ℕ → List ℕ → LinesJob → Type 0 where
  none : InSteps wide [] [] (started wide)
  then : {bytes text : List ℕ} {before : LinesJob} (part out₀ out : List ℕ) (r : LinesFed) → InSteps wide bytes text before
      → LinesStep before part out₀ out r → InSteps wide (bytes ++ take r.used part) (text ++ take r.end out) r.job

-- a line that no newline ends, if it has a byte
unfoldable pub last_line : List ℕ → List (List ℕ)
last_line [] = []
last_line (byte ∷ line) = (byte ∷ line) ∷ []

-- all lines of an input
unfoldable pub all_lines : List ℕ → List (List ℕ)
all_lines bytes = (input_of bytes).lines ++ last_line (input_of bytes).begun
