-- A job after two parts of a trace, and after one record. Assumes nothing.
use Prim.Native.Nat.{ℕ, ◌+◌, ◌≤◌}
use mathlib.Core.Bool.{Bool}
use mathlib.Core.List.{List, [], ◌++◌}
use mathlib.Core.Path.{◌≡◌, refl, sym, ap, ◌∙◌}
use native.Mathlib.Nat.{add_assoc, add-zero}
use native.Mathlib.Omega.{arith}
use lib.ListN.{length, take, length-append}
use Rattle.file.specs.declared.registers.File.{File}
use Rattle.trace.specs.Records.{item_count, item_of, items}
use Rattle.trace.specs.Run.{file_after}
use Rattle.replaying.specs.Replay.{after_part}
use Rattle.replaying.proofs.Pieces.{file-parts, parts-count}
use Rattle.feeding.specs.Feeding.{Additive}
use Rattle.job_explain.specs.declared.job.ExplainJob.{ExplainJob}
use Rattle.summing.specs.Told.{record_told}
use Rattle.job_explain.specs.Job.{WholeRecords, after_bytes, job_told, record_after}
use Rattle.job_explain.proofs.ToldInParts.{counted-parts, none-counted, none-summed, none_told}
use Rattle.job_explain.proofs.ToldInParts.{one-after, one-counted, one-item, one-summed, one_told, summed-parts, told-parts}

whole-records : (a b : List ℕ) → WholeRecords a → WholeRecords b → WholeRecords (a ++ b)
unfolding WholeRecords
whole-records a b whole also = rw length-append (omega (arith, whole, also))

none_after : (f : File) → after_part f [] ≡ f
unfolding after_part item_count items file_after
none_after f = refl

no_items : item_count [] ≡ 0
unfolding item_count
no_items = refl

module _ (sums : Bool) (j : ExplainJob) where
  -- no bytes
  pub job-none : after_bytes sums j [] ≡ j
  unfolding after_bytes
  job-none =
      λ i. record {
        number = (ap (λ (k : ℕ). j.number + k) no_items ∙ add-zero j.number) i;
        file = none_after j.file i;
        summary = none-summed sums j.summary j.file i;
        refusals = none-counted j.refusals j.file i;
      }

  pub nothing-told : job_told sums j [] ≡ []
  unfolding job_told
  nothing-told = none_told sums j.number j.file

  -- whole records, and what follows them
  module _ (a b : List ℕ) (whole : WholeRecords a) where
    pub job-parts : after_bytes sums j (a ++ b) ≡ after_bytes sums (after_bytes sums j a) b
    unfolding after_bytes WholeRecords
    job-parts =
        λ i. record {
          number = (ap (λ (k : ℕ). j.number + k) (parts-count a b whole) ∙ sym (add_assoc j.number (item_count a) (item_count b))) i;
          file = file-parts a b whole j.file i;
          summary = summed-parts sums j.summary j.file a b whole i;
          refusals = counted-parts j.refusals j.file a b whole i;
        }

    pub job-told-parts : job_told sums j (a ++ b) ≡ job_told sums j a ++ job_told sums (after_bytes sums j a) b
    unfolding after_bytes job_told WholeRecords
    job-told-parts = told-parts sums j.number j.file a b whole

  -- one record, or its fragment
  module _ (piece : List ℕ) (some : length piece ≡ 0 → ⊥) (few : length piece ≤ 8) where
    pub one-job : after_bytes sums j piece ≡ record_after sums j (item_of (take 8 piece))
    unfolding after_bytes record_after
    one-job =
        λ i. record {
          number = ap (λ (k : ℕ). j.number + k) (one-item piece some few) i;
          file = one-after piece j.file some few i;
          summary = one-summed piece sums j.summary j.file some few i;
          refusals = one-counted piece j.refusals j.file some few i;
        }

    pub one-job-told : job_told sums j piece ≡ record_told sums j.number j.file (item_of (take 8 piece))
    unfolding job_told
    one-job-told = one_told piece sums j.number j.file some few

-- so a job is what parts are put together of
pub additive : (sums : Bool) → Additive WholeRecords (after_bytes sums) (job_told sums)
unfolding WholeRecords
additive sums =
    record {
      whole-none = refl;
      whole_parts = whole-records;
      after_none = job-none sums;
      told_none = nothing-told sums;
      after-parts = job-parts sums;
      told-parts = job-told-parts sums;
    }
