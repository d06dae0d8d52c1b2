-- However a trace is cut into parts, the lines of the parts and the closing line are what 01 prints of the whole. Assumes nothing.
use Prim.Native.Nat.{ℕ, ◌+◌, ◌*◌, ◌%◌}
use mathlib.Core.Bool.{Bool, true, false}
use mathlib.Core.List.{List, [], ◌++◌}
use mathlib.Core.Path.{◌≡◌, refl, ap, ap₂, ◌∙◌}
use native.Mathlib.Nat.{zero-add}
use native.Mathlib.Omega.{arith}
use lib.Dec.{T}
use lib.ListN.{length, length-append}
use Rattle.file.specs.declared.chip.Chip.{Chip}
use Rattle.file.specs.declared.registers.File.{File}
use Rattle.file.specs.File.{power_on}
use Rattle.file.specs.Sound.{sound}
use Rattle.file.proofs.Soundness.{power_on-sound}
use Rattle.timing.specs.Timing.{read_timing, timing_in}
use Rattle.trace.specs.Records.{items, item_count}
use Rattle.text.specs.Text.{timing_line}
use Rattle.feeding.specs.Feeding.{Additive, WholeInput}
use Rattle.feeding.proofs.AsTheWhole.{input-after, input-told}
use Rattle.refusals.specs.declared.codes.Refusals.{Refusals}
use Rattle.refusals.specs.Counted.{counted_items, counted_part, none_counted}
use Rattle.refusals.proofs.RepliesCounted.{counted-in-parts}
use Rattle.replaying.specs.Replay.{after_part, part_lines, replayed, replayed_from}
use Rattle.replaying.proofs.Pieces.{file-parts, lines-parts, parts-count, trace-cut}
use Rattle.replaying.proofs.Whole.{part_sound, timing-read}
use Rattle.job_replay.specs.declared.job.TraceJob.{TraceJob}
use Rattle.job_replay.specs.Job.{WholeRecords, after_bytes, closing_line, started, told_of}
use Rattle.job_replay.proofs.Taken.{none_after, none_told}

-- the answers of a part of whole records, and of what follows it
counted-parts : (r : Refusals) (f : File) (a b : List ℕ) → length a % 8 ≡ 0 → counted_part r f (a ++ b) ≡ counted_part (counted_part r f a) (after_part f a) b
unfolding counted_part after_part item_count
counted-parts r f a b whole =
    let all : length a ≡ 8 * item_count a = omega (arith, whole) in
    ap (counted_items r f) (trace-cut (item_count a) a b all) ∙ counted-in-parts r f (items (item_count a) a) (items (item_count b) b)

after-parts : (job : TraceJob) (a b : List ℕ) → WholeRecords a → after_bytes job (a ++ b) ≡ after_bytes (after_bytes job a) b
unfolding after_bytes WholeRecords
after-parts job a b whole =
    let number : job.number + item_count (a ++ b) ≡ job.number + item_count a + item_count b = omega (arith, parts-count a b whole) in
    λ i. record { number = number i; file = file-parts a b whole job.file i; refusals = counted-parts job.refusals job.file a b whole i }

told-parts : (prints : Bool) (job : TraceJob) (a b : List ℕ) → WholeRecords a
    → told_of prints job (a ++ b) ≡ told_of prints job a ++ told_of prints (after_bytes job a) b
unfolding told_of after_bytes WholeRecords
told-parts true job a b whole = lines-parts a b whole job.number job.file
told-parts false job a b whole = refl

-- what a job does with two parts is what it does with both at once
pub replay-additive : (prints : Bool) → Additive WholeRecords after_bytes (told_of prints)
unfolding WholeRecords
replay-additive prints =
    record {
      whole-none = refl;
      whole_parts = λ a b wa wb. rw length-append (omega (arith, wa, wb));
      after_none = none_after;
      told_none = none_told prints;
      after-parts = after-parts;
      told-parts = told-parts prints;
    }

module _ (chip : Chip) (prints : Bool) {input text : List ℕ} {job : TraceJob}
    (fed : WholeInput WholeRecords after_bytes (told_of prints) (started chip) input text job) where
  -- a job that was fed a whole trace, however it was cut: how many records there were, the file after them, and their answers counted
  pub trace-whole : job
      ≡ record { number = item_count input; file = after_part (power_on chip) input; refusals = counted_part none_counted (power_on chip) input }
  unfolding after_bytes started
  trace-whole =
      input-after (replay-additive prints) fed
      ∙ λ i. record {
        number = zero-add (item_count input) i;
        file = after_part (power_on chip) input;
        refusals = counted_part none_counted (power_on chip) input;
      }

  pub file-whole : job.file ≡ after_part (power_on chip) input
  file-whole = ap (λ (j : TraceJob). j.file) trace-whole

  pub number-whole : job.number ≡ item_count input
  number-whole = ap (λ (j : TraceJob). j.number) trace-whole

  pub refusals-whole : job.refusals ≡ counted_items none_counted (power_on chip) (items (item_count input) input)
  unfolding counted_part
  refusals-whole = ap (λ (j : TraceJob). j.refusals) trace-whole

  pub file-sound : T (sound job.file)
  file-sound = rw file-whole (part_sound (power_on chip) input (power_on-sound chip))

  -- its closing line
  pub closing-whole : closing_line job ≡ timing_line (timing_in (after_part (power_on chip) input))
  unfolding closing_line
  closing-whole =
      ap timing_line (timing-read job.file file-sound (read_timing job.file) refl ∙ ap timing_in file-whole)

-- 01, 'For each record .. Last comes one line': what is put out of the parts, and then the closing line, is what is printed of the whole trace
pub replay-whole : (chip : Chip) {input text : List ℕ} {job : TraceJob} → WholeInput WholeRecords after_bytes (told_of true) (started chip) input text job
    → text ++ closing_line job ≡ replayed chip input
unfolding told_of replayed replayed_from part_lines after_part started
replay-whole chip fed = ap₂ (λ (a b : List ℕ). a ++ b) (input-told (replay-additive true) fed) (closing-whole chip true fed)

-- without lines nothing is put out
pub silent-whole : (chip : Chip) {input text : List ℕ} {job : TraceJob} → WholeInput WholeRecords after_bytes (told_of false) (started chip) input text job
    → text ≡ []
unfolding told_of
silent-whole chip fed = input-told (replay-additive false) fed
