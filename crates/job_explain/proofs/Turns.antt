-- The loop of a step: what it holds after each record, and that one record more keeps it. Assumes nothing.
use Prim.Native.Nat.{ℕ, ◌+◌, ◌-◌, ◌*◌, ◌/◌, ◌%◌, ◌^◌, ◌≤◌, ◌<◌, min}
use mathlib.Core.Bool.{Bool}
use mathlib.Core.List.{List, ◌++◌}
use mathlib.Core.Path.{◌≡◌, refl, sym, ap, ◌∙◌}
use native.Mathlib.Omega.{arith}
use lib.ListN.{length, take, drop, length-drop}
use lib.Seq.{drop-drop, length-sets, length-take-le, sets-eq, take_at, take-add}
use Rattle.std.proofs.lemmas.List.{drop-take}
use Rattle.std.proofs.Math.Seq.{drop-append_seam, take-append_seam}
use Rattle.trace.specs.Records.{item_count, item_of}
use Rattle.text.specs.Lent.{Wrote}
use Rattle.text.proofs.Stores.{then-text}
use Rattle.explaining.specs.Explained.{record_most}
use Rattle.feeding.specs.Feeding.{Fed, bytes_of, number_most}
use Rattle.job_explain.specs.declared.job.ExplainJob.{ExplainJob}
use Rattle.job_explain.specs.declared.turn.Turn.{Turn}
use Rattle.summing.specs.Told.{record_told}
use Rattle.job_explain.specs.Job.{Turned, WholeRecords, after_bytes, bytes_taken, job_told, records_taken}
use Rattle.job_explain.proofs.JobInParts.{job-none, job-parts, job-told-parts, nothing-told, one-job, one-job-told}
use Rattle.job_explain.proofs.RecordsShort.{record-short}

-- so many bytes of a part, whose text has room and whose records have numbers
pub record Takes (number : ℕ) (part : List ℕ) (room bytes : ℕ) : Type 0 where
  pub within : bytes ≤ length part
  pub roomy : record_most * ((bytes + 7) / 8) ≤ room
  pub numbered : (bytes + 7) / 8 ≤ number_most - number

-- what a step takes
module _ (number : ℕ) (last : Bool) (part : List ℕ) (room : ℕ) where
  few-roomy : records_taken number last part room ≤ room / record_most
  unfolding records_taken
  few-roomy = omega arith

  few-numbered : records_taken number last part room ≤ number_most - number
  unfolding records_taken
  few-numbered = omega arith

  pub step-takes : Takes number part room (bytes_taken number last part room)
  unfolding bytes_taken bytes_of
  step-takes =
      let records = records_taken number last part room in
      let few : (min (8 * records) (length part) + 7) / 8 ≤ records = omega arith in
      record { within = omega arith; roomy = omega (arith, few, few-roomy); numbered = omega (arith, few, few-numbered) }

-- after the records before a place
pub record Held (sums : Bool) (before : ExplainJob) (part out₀ : List ℕ) (bytes : ℕ) (out : List ℕ) (job : ExplainJob) (at end : ℕ) : Type 0 where
  pub takes : Takes before.number part (length out₀) bytes
  pub near : at ≤ bytes
  pub whole : at < bytes → at % 8 ≡ 0
  pub become : job ≡ after_bytes sums before (take at part)
  pub stored : Wrote out₀ 0 (job_told sums before (take at part)) out end
  pub low : end ≤ record_most * ((at + 7) / 8)

module _ (sums : Bool) (before : ExplainJob) (part out₀ : List ℕ) (bytes : ℕ) where
  pub held_none : Takes before.number part (length out₀) bytes → Held sums before part out₀ bytes out₀ before 0 0
  held_none takes =
      record {
        takes = takes;
        near = omega arith;
        whole = λ _. refl;
        become = sym (job-none sums before);
        stored = rw (nothing-told sums before) (record { bytes = refl; place = refl });
        low = omega arith;
      }

  module _ (out : List ℕ) (job : ExplainJob) (at end : ℕ) (held : Held sums before part out₀ bytes out job at end) where
    pub same-room : length out ≡ length out₀
    same-room = ap length held.stored.bytes ∙ length-sets out₀ 0 (job_told sums before (take at part))

    module _ (more : at < bytes) where
      -- a record that is left has room, and a number
      pub room-left : end + record_most ≤ length out
      room-left = omega (arith, same-room, held.low, held.takes.roomy, held.whole more, more)

      place : length (take at part) ≡ at
      place = length-take-le at part (omega (arith, held.takes.within, more))

      counted : job.number ≡ before.number + item_count (take at part)
      unfolding after_bytes
      counted = ap (λ (j : ExplainJob). j.number) held.become

      pub number-left : job.number + 1 < 2 ^ 64
      unfolding item_count
      number-left = omega (arith, counted, place, held.takes.numbered, held.whole more, more)

      -- one record more
      module _ (next : ℕ) (so : next ≡ min (at + 8) bytes) where
        piece : List ℕ
        piece = take (next - at) (drop at part)

        size : length piece ≡ next - at
        unfolding piece
        size = length-take-le (next - at) (drop at part) (rw length-drop (omega (arith, so, more, held.takes.within)))

        some : length piece ≡ 0 → ⊥
        some none = omega (arith, size, none, so, more)

        few : length piece ≤ 8
        few = omega (arith, size, so)

        parts : take next part ≡ take at part ++ piece
        unfolding piece
        parts =
            let there : next ≡ at + (next - at) = omega (arith, so, more) in
            ap (λ (k : ℕ). take k part) there ∙ take-add at (next - at) part

        first : WholeRecords (take at part)
        unfolding WholeRecords
        first = omega (arith, place, held.whole more)

        gone : after_bytes sums before (take next part) ≡ after_bytes sums job piece
        gone =
            ap (after_bytes sums before) parts ∙ job-parts sums before (take at part) piece first
            ∙ ap (λ (j : ExplainJob). after_bytes sums j piece) (sym held.become)

        told : job_told sums before (take next part) ≡ job_told sums before (take at part) ++ record_told sums job.number job.file (item_of (take 8 piece))
        told =
            ap (job_told sums before) parts ∙ job-told-parts sums before (take at part) piece first
            ∙ ap (λ (t : List ℕ). job_told sums before (take at part) ++ t)
            (ap (λ (j : ExplainJob). job_told sums j piece) (sym held.become) ∙ one-job-told sums job piece some few)

        pub held_next : (after : List ℕ) (r : Turn) → Turned sums job (item_of (take 8 (take (next - at) (drop at part)))) end out after r
            → Held sums before part out₀ bytes after r.job next r.end
        unfolding piece
        held_next after r turned =
            let short = record-short sums job.number job.file (item_of (take 8 piece)) in
            record {
              takes = held.takes;
              near = omega (arith, so);
              whole = λ further. omega (arith, so, further, held.whole more);
              become = turned.become ∙ sym (gone ∙ one-job sums job piece some few);
              stored = rw told (then-text held.stored turned.stored);
              low = omega (arith, turned.stored.place, held.low, short, held.whole more, so, more);
            }

    -- after the last
    pub held_all : (taken : ℕ) → bytes ≡ taken → (at < bytes → ⊥)
        → Fed (after_bytes sums) (job_told sums) taken before part out₀ out job bytes end
    held_all taken same over =
        let here : at ≡ taken = omega (arith, over, held.near, same) in
        let text : job_told sums before (take at part) ≡ job_told sums before (take taken part) = ap (λ (k : ℕ). job_told sums before (take k part)) here in
        let stored : Wrote out₀ 0 (job_told sums before (take taken part)) out end = rw text at held.stored in
        let ended : end ≡ length (job_told sums before (take taken part)) = omega (arith, stored.place) in
        let fits : 0 + length (job_told sums before (take taken part)) ≤ length out₀ = omega (arith, ended, held.low, held.takes.roomy, here, same) in
        record {
          taken = same;
          become = held.become ∙ ap (λ (k : ℕ). after_bytes sums before (take k part)) here;
          ended = ended;
          stored =
              stored.bytes ∙ sets-eq (job_told sums before (take taken part)) out₀ 0 fits
              ∙ ap (λ (k : ℕ). job_told sums before (take taken part) ++ drop k out₀) (sym stored.place);
        }

-- the bytes that are left from a place on, and the next eight of them
module _ (part : List ℕ) (bytes at : ℕ) (within : bytes ≤ length part) (near : at ≤ bytes) (left : List ℕ) (there : left ≡ drop at (take bytes part)) where
  pub left-long : length left ≡ bytes - at
  left-long = ap length there ∙ length-drop at (take bytes part) ∙ ap (λ (k : ℕ). k - at) (length-take-le bytes part within)

  module _ (x rest : List ℕ) (cut : left ≡ x ++ rest) (size : length x ≡ min 8 (length left)) where
    long : length x ≡ min (at + 8) bytes - at
    long = omega (arith, size, left-long, near)

    pub is-piece : x ≡ take (min (at + 8) bytes - at) (drop at part)
    is-piece =
        let all : bytes ≡ at + (bytes - at) = omega (arith, near) in
        let more : bytes - at ≡ length x + (bytes - at - length x) = omega (arith, long) in
        let begun : length (take (length x) (drop at part)) ≡ length x = length-take-le (length x) (drop at part) (rw length-drop (omega (arith, long, within))) in
        sym (take-append_seam x rest)
        ∙ ap (take (length x))
        (sym cut ∙ there ∙ ap (λ (k : ℕ). drop at (take k part)) all ∙ drop-take at (bytes - at) part
        ∙ ap (λ (k : ℕ). take k (drop at part)) more ∙ take-add (length x) (bytes - at - length x) (drop at part))
        ∙ take_at (take (length x) (drop at part)) _ (length x) begun
        ∙ ap (λ (k : ℕ). take k (drop at part)) long

    pub is-rest : rest ≡ drop (min (at + 8) bytes) (take bytes part)
    is-rest =
        let on : at + length x ≡ min (at + 8) bytes = omega (arith, long, near) in
        sym (drop-append_seam x rest) ∙ ap (drop (length x)) (sym cut ∙ there) ∙ drop-drop (length x) at (take bytes part)
        ∙ ap (λ (k : ℕ). drop k (take bytes part)) on

-- after some records, by the bytes that are left, in pieces of eight
pub record Going (sums : Bool) (before : ExplainJob) (part out₀ : List ℕ) (bytes : ℕ) (out : List ℕ) (job : ExplainJob) (end : ℕ) (left : List ℕ) (piece : ℕ) : Type 0 where
  pub eight : piece ≡ 8
  pub at : ℕ
  pub there : left ≡ drop at (take bytes part)
  pub held : Held sums before part out₀ bytes out job at end
