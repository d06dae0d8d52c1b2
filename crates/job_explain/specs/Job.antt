-- 'Explain' as a job: what it starts from, what a record and a part of a trace make of it, and what it puts at the end.
-- Assumes nothing.
use Rattle.std.specs.Prelude.{ℕ, ◌+◌, ◌/◌, ◌%◌, min, Bool, cond, List, ◌++◌, ◌≡◌, length}
use Rattle.file.specs.declared.answer.Answer.{Answer}
use Rattle.file.specs.declared.answer.Answer.TheVariants.{Done}
use Rattle.file.specs.declared.chip.Chip.{Chip}
use Rattle.file.specs.Answers.{code_of}
use Rattle.file.specs.File.{power_on}
use Rattle.access.specs.declared.record.Item.{Item}
use Rattle.access.specs.Access.{access_item}
use Rattle.trace.specs.Records.{item_count}
use Rattle.text.specs.Lent.{Wrote}
use Rattle.replaying.specs.Replay.{after_part}
use Rattle.explaining.specs.Explained.{record_most}
use Rattle.summing.specs.Closing.{summary_answer}
use Rattle.summing.specs.Summed.{begun}
use Rattle.refusals.specs.Counted.{counted_part, counting_of, none_counted}
use Rattle.feeding.specs.declared.step.Fed.{Fed as FedOf}
use Rattle.feeding.specs.Feeding.{Fed, bytes_of, numbers_left, units_in}
use Rattle.job_explain.specs.declared.job.ExplainJob.{ExplainJob}
use Rattle.job_explain.specs.declared.turn.Turn.{Turn}
use Rattle.summing.specs.Told.{closing, part_summed, part_told, record_summed, record_told, trace_told}

-- the job after some bytes of a part, how many those are, and where their text ends
abbrev pub ExplainFed : Type 0
ExplainFed = FedOf ExplainJob

-- from a chip's power-on, with the number 0
unfoldable pub starting : Chip → ExplainJob
starting chip = record { number = 0; file = power_on chip; summary = begun (power_on chip); refusals = none_counted }

-- the job after a record
unfoldable pub record_after : Bool → ExplainJob → Item → ExplainJob
record_after sums j i =
    record {
      number = j.number + 1;
      file = (access_item j.file i).file;
      summary = record_summed sums j.summary j.file i;
      refusals = counting_of j.refusals (code_of (access_item j.file i).answer);
    }

-- a record was explained: the job after it, and its text, which stands in a buffer from a place on
pub record Turned (sums : Bool) (before : ExplainJob) (item : Item) (at : ℕ) (out₀ out : List ℕ) (r : Turn) : Type 0 where
  pub become : r.job ≡ record_after sums before item
  pub stored : Wrote out₀ at (record_told sums before.number before.file item) out r.end

-- the job after some bytes of a trace; a fragment at their end is a record too
unfoldable pub after_bytes : Bool → ExplainJob → List ℕ → ExplainJob
after_bytes sums j bytes =
    record {
      number = j.number + item_count bytes;
      file = after_part j.file bytes;
      summary = part_summed sums j.summary j.file bytes;
      refusals = counted_part j.refusals j.file bytes;
    }

-- what is told of them
unfoldable pub job_told : Bool → ExplainJob → List ℕ → List ℕ
job_told sums j bytes = part_told sums j.number j.file bytes

-- how many records of a part a step takes, by the number of the first: as many as there are, as have room and as have numbers
unfoldable pub records_taken : ℕ → Bool → List ℕ → ℕ → ℕ
records_taken number last part room = min (units_in 8 last part) (min (room / record_most) (numbers_left number))

-- how many bytes those are
unfoldable pub bytes_taken : ℕ → Bool → List ℕ → ℕ → ℕ
bytes_taken number last part room = bytes_of 8 (records_taken number last part room) part

-- what a step makes of a part
abbrev pub PartExplained : Bool → ExplainJob → List ℕ → Bool → List ℕ → List ℕ → ExplainFed → Type 0
PartExplained sums before part last out₀ out r =
    Fed (after_bytes sums) (job_told sums) (bytes_taken before.number last part (length out₀)) before part out₀ out r.job r.used r.end

-- bytes that are whole records
unfoldable pub WholeRecords : List ℕ → Type 0
WholeRecords bytes = length bytes % 8 ≡ 0

-- 01, the table of codes: 11 where the summary is asked for and there are fewer bytes than it may have
unfoldable pub close_answer : Bool → List ℕ → Answer
close_answer sums out = cond sums (summary_answer out 0) (Done 0)

-- what a job has come to where all of a trace was fed to it and this text was put out
pub record WholeExplained (sums : Bool) (chip : Chip) (trace text : List ℕ) (job : ExplainJob) : Type 0 where
  pub told : text ++ closing sums job.summary ≡ trace_told sums chip trace
  pub number : job.number ≡ item_count trace
  pub file : job.file ≡ after_part (power_on chip) trace
  pub refusals : job.refusals ≡ counted_part none_counted (power_on chip) trace
