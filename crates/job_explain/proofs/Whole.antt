-- However a trace is cut into parts, what is put out of it, and then at the end, is what is told of the whole trace. Assumes nothing.
use Prim.Native.Nat.{ℕ, ◌≤◌, ◌<◌}
use mathlib.Core.Bool.{Bool, true, false}
use mathlib.Core.List.{List, ◌++◌}
use mathlib.Core.Path.{◌≡◌, refl, ap, ap₂, ◌∙◌}
use native.Mathlib.Nat.{zero-add}
use native.Mathlib.Omega.{arith}
use lib.ListN.{length, take}
use lib.Seq.{length-take-le}
use Rattle.file.specs.declared.chip.Chip.{Chip}
use Rattle.file.specs.File.{power_on}
use Rattle.trace.specs.Records.{item_count, items}
use Rattle.explaining.specs.Explained.{record_most}
use Rattle.summing.specs.Summed.{begun, summed}
use Rattle.feeding.specs.Feeding.{WholeInput, bytes_of, number_most, units_in}
use Rattle.feeding.proofs.AsTheWhole.{input-after, input-told}
use Rattle.job_explain.specs.declared.job.ExplainJob.{ExplainJob}
use Rattle.summing.specs.Told.{closing, part_summed, part_told, trace_told}
use Rattle.job_explain.specs.Job.{WholeExplained, WholeRecords, after_bytes, bytes_taken, job_told, records_taken, starting}
use Rattle.job_explain.proofs.JobInParts.{additive}

-- what a step that isn't given the last part takes is whole records
pub step-whole : (number : ℕ) (part : List ℕ) (room : ℕ) → WholeRecords (take (bytes_taken number false part room) part)
unfolding WholeRecords bytes_taken bytes_of records_taken units_in
step-whole number part room = omega (arith, length-take-le (bytes_taken number false part room) part (omega arith))

some_bytes : (last : Bool) (part : List ℕ) → 0 < units_in 8 last part → 0 < length part
unfolding units_in
some_bytes true part there = omega (arith, there)
some_bytes false part there = omega (arith, there)

module _ (number : ℕ) (last : Bool) (part : List ℕ) (room : ℕ) where
  -- and so is what any step takes that leaves some of its part
  pub rest-whole : bytes_taken number last part room < length part → WholeRecords (take (bytes_taken number last part room) part)
  unfolding WholeRecords bytes_taken bytes_of
  rest-whole some = omega (arith, length-take-le (bytes_taken number last part room) part (omega arith), some)

  -- a step takes some where there is a record, room for one and a number for it
  pub step-some : 0 < units_in 8 last part → record_most ≤ room → number < number_most → 0 < bytes_taken number last part room
  unfolding bytes_taken bytes_of records_taken
  step-some there roomy numbered =
      let records : 0 < records_taken number last part room = omega (arith, there, roomy, numbered) in
      omega (arith, records, some_bytes last part there)

-- where nothing is summed, nothing stands at the end
closing-of : (sums : Bool) (chip : Chip) (trace : List ℕ) → closing sums (part_summed sums (begun (power_on chip)) (power_on chip) trace)
    ≡ closing sums (summed (power_on chip) (items (item_count trace) trace))
unfolding closing part_summed summed
closing-of true chip trace = refl
closing-of false chip trace = refl

-- however a trace is cut, its parts put out what is told of the whole, and lead to its file, number and codes
pub explain-whole : (sums : Bool) (chip : Chip) {trace text : List ℕ} {job : ExplainJob}
    → WholeInput WholeRecords (after_bytes sums) (job_told sums) (starting chip) trace text job → WholeExplained sums chip trace text job
unfolding starting after_bytes job_told trace_told
explain-whole sums chip {trace} {text} {job} input =
    let gone : job ≡ after_bytes sums (starting chip) trace = input-after (additive sums) input in
    let said : text ≡ job_told sums (starting chip) trace = input-told (additive sums) input in
    record {
      told =
          ap₂ (λ (t : List ℕ) (j : ExplainJob). t ++ closing sums j.summary) said gone
          ∙ ap (λ (t : List ℕ). part_told sums 0 (power_on chip) trace ++ t) (closing-of sums chip trace);
      number = ap (λ (j : ExplainJob). j.number) gone ∙ zero-add (item_count trace);
      file = ap (λ (j : ExplainJob). j.file) gone;
      refusals = ap (λ (j : ExplainJob). j.refusals) gone;
    }
