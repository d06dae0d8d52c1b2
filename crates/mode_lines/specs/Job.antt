-- The job over the lines of an input: how it is started, and what a step promises.
-- Assumes nothing.
use Rattle.std.specs.Prelude.{ℕ, Bool, List, ◌≡◌, length, replicate}
use Rattle.mode_lines.specs.declared.job.LinesFed.{LinesFed}
use Rattle.mode_lines.specs.declared.job.LinesJob.{LinesJob}
use Rattle.mode_lines.specs.Parts.{PartReported}
use Rattle.mode_lines.specs.Start.{start_file}

-- at line 0, with the file at power-on
unfoldable pub started : Bool → LinesJob
started wide = record { number = 0; count = 0; kept = replicate 256 0; file = start_file wide }

-- one step: the part is reported from the job's number on, after the bytes that it keeps; the file stays, and so does the room for 256 bytes
pub record LinesStep (before : LinesJob) (part out₀ out : List ℕ) (r : LinesFed) : Type 0 where
  pub file : r.job.file ≡ before.file
  pub long : length r.job.kept ≡ 256
  pub reported : PartReported before.file before.number before.count part before.kept r.job.kept out₀ out
      (record { used = r.used; number = r.job.number; count = r.job.count; end = r.end })
