-- The command `replay` as a job: a trace that is run from power-on, fed in parts, with a line for each record where lines are asked for.
-- Assumes nothing.
use Rattle.std.specs.Prelude.{ℕ, ◌+◌, ◌/◌, ◌%◌, min, Bool, cond, List, [], ◌++◌, ◌≡◌, length, drop}
use Rattle.file.specs.declared.chip.Chip.{Chip}
use Rattle.file.specs.File.{power_on}
use Rattle.file.specs.Sound.{sound}
use Rattle.timing.specs.Timing.{read_timing}
use Rattle.trace.specs.Records.{item_count}
use Rattle.text.specs.Text.{timing_line}
use Rattle.feeding.specs.declared.step.Fed.{Fed as FedOf}
use Rattle.feeding.specs.Feeding.{Fed, bytes_of, numbers_left, units_in}
use Rattle.refusals.specs.Counted.{counted_part, none_counted}
use Rattle.replaying.specs.Replay.{after_part, part_lines}
use Rattle.job_replay.specs.declared.job.TraceJob.{TraceJob}

-- what one step leaves: the job after it, how many bytes of the part it used, and where its lines end
abbrev pub TraceFed : Type 0
TraceFed = FedOf TraceJob

-- 01, 'It reads a trace on standard input from power-on'; 02, 6/13: of a chip
unfoldable pub started : Chip → TraceJob
started chip = record { number = 0; file = power_on chip; refusals = none_counted }

-- the job after some bytes of the trace: whole records, and at its end a fragment
unfoldable pub after_bytes : TraceJob → List ℕ → TraceJob
after_bytes job bytes =
    record {
      number = job.number + item_count bytes;
      file = after_part job.file bytes;
      refusals = counted_part job.refusals job.file bytes;
    }

-- their lines, if they are asked for
unfoldable pub told_of : Bool → TraceJob → List ℕ → List ℕ
told_of prints job bytes = cond prints (part_lines job.number job.file bytes) []

-- 'Last comes one line': the timing line; its numbers are 0 where the file isn't sound
unfoldable pub closing_line : TraceJob → List ℕ
closing_line job = timing_line (read_timing job.file).timing

-- the most records that one step takes
abbrev pub step_most : ℕ
step_most = 1024

-- how many records' lines have room: a line has at most 30 bytes
unfoldable pub room_for : Bool → ℕ → ℕ
room_for prints room = cond prints (room / 30) step_most

-- how many records of a part a step takes
unfoldable pub records_taken : Bool → Bool → TraceJob → List ℕ → ℕ → ℕ
records_taken prints last job part room =
    cond (sound job.file) (min (min (units_in 8 last part) step_most) (min (room_for prints room) (numbers_left job.number))) 0

-- how many bytes
unfoldable pub bytes_taken : Bool → Bool → TraceJob → List ℕ → List ℕ → ℕ
bytes_taken prints last job part out = bytes_of 8 (records_taken prints last job part (length out)) part

-- bytes of a trace that are whole records
unfoldable pub WholeRecords : List ℕ → Type 0
WholeRecords bytes = length bytes % 8 ≡ 0

-- a part that was run whole in one step of a job
pub record Stepped (prints : Bool) (before : TraceJob) (part out₀ out : List ℕ) (r : TraceFed) : Type 0 where
  pub become : r.job ≡ after_bytes before part
  pub used : r.used ≡ length part
  pub end : r.end ≡ length (told_of prints before part)
  pub printed : out ≡ told_of prints before part ++ drop r.end out₀

-- what a step promises: `Fed` of the job, for the bytes that it takes
abbrev pub TraceStep : Bool → Bool → TraceJob → List ℕ → List ℕ → List ℕ → TraceFed → Type 0
TraceStep prints last before part out₀ out r =
    Fed after_bytes (told_of prints) (bytes_taken prints last before part out₀) before part out₀ out r.job r.used r.end
