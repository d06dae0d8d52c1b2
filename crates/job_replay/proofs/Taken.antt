-- What a step takes: as many bytes as its records have, which are whole records unless the part ends there. Assumes nothing.
use Prim.Native.Nat.{ℕ, ◌+◌, ◌-◌, ◌*◌, ◌/◌, ◌%◌, ◌^◌, ◌≤◌, ◌<◌, min}
use mathlib.Core.Bool.{Bool, true, false}
use mathlib.Core.List.{List, [], ◌++◌}
use mathlib.Core.Path.{◌≡◌, refl, sym, ap, subst, ◌∙◌}
use native.Mathlib.Nat.{add-zero}
use native.Mathlib.Omega.{arith}
use lib.Dec.{T}
use lib.ListN.{length, take, length-take}
use lib.Seq.{length-take-le}
use Rattle.bits.proofs.Test.{by-test, passes}
use Rattle.file.specs.Sound.{sound}
use Rattle.trace.specs.Records.{items, item_count}
use Rattle.trace.specs.Run.{file_after}
use Rattle.refusals.specs.Counted.{counted_items, counted_part}
use Rattle.replaying.specs.Replay.{after_part, part_lines, record_lines}
use Rattle.feeding.specs.Feeding.{Fed, bytes_of, number_most, units_in}
use Rattle.job_replay.specs.declared.job.TraceJob.{TraceJob}
use Rattle.job_replay.specs.Job.{Stepped, TraceFed, WholeRecords, after_bytes, bytes_taken, records_taken, room_for, step_most, told_of}

-- so many units have at most a fragment more than their bytes
units-within : (last : Bool) (part : List ℕ) → 8 * units_in 8 last part ≤ length part + 7
unfolding units_in
units-within true part = omega arith
units-within false part = omega arith

whole-within : (last : Bool) (part : List ℕ) → last ≡ false → 8 * units_in 8 last part ≤ length part
unfolding units_in
whole-within last part e = rw e (omega arith)

lined-room : (prints : Bool) (room : ℕ) → prints ≡ true → room_for prints room ≡ room / 30
unfolding room_for
lined-room prints room e = rw e refl

module _ (prints last : Bool) (job : TraceJob) (part : List ℕ) (room : ℕ) where
  abbrev Records : ℕ
  Records = records_taken prints last job part room

  few : Records ≤ min (min (units_in 8 last part) step_most) (min (room_for prints room) (number_most - job.number))
  unfolding records_taken
  few = by-test (sound job.file) (λ e. rw e (omega arith)) (λ e. rw e (omega arith))

  within-units : Records ≤ units_in 8 last part
  within-units = omega (arith, few)

  pub within_step : Records ≤ 1024
  within_step = omega (arith, few)

  pub within-numbers : Records ≤ number_most - job.number
  within-numbers = omega (arith, few)

  pub within-room : prints ≡ true → 30 * Records ≤ room
  within-room e = omega (arith, few, lined-room prints room e)

  pub within-part : 8 * Records ≤ length part + 7
  within-part = omega (arith, few, units-within last part)

  -- records are taken of a sound file alone
  pub taken-sound : (Records ≡ 0 → ⊥) → T (sound job.file)
  unfolding records_taken
  taken-sound some = by-test (sound job.file) (λ e. passes _ e) (λ e. absurd (some (rw e refl)))

  -- the bytes of so many records are so many records
  pub taken-count : (used : ℕ) → used ≡ min (8 * Records) (length part) → item_count (take used part) ≡ Records
  unfolding item_count
  taken-count used e = rw length-take (omega (arith, e, within-part))

-- no bytes leave a job as it is, and nothing is told of them
pub none_after : (job : TraceJob) → after_bytes job [] ≡ job
unfolding after_bytes item_count items after_part file_after counted_part counted_items
none_after job = λ i. record { number = add-zero job.number i; file = job.file; refusals = job.refusals }

pub none_told : (prints : Bool) (job : TraceJob) → told_of prints job [] ≡ []
unfolding told_of part_lines item_count items record_lines
none_told true job = refl
none_told false job = refl

module _ (prints last : Bool) (before : TraceJob) (part out₀ : List ℕ) where
  abbrev Bytes : ℕ
  Bytes = bytes_taken prints last before part out₀

  module _ (records : ℕ) (taken : records ≡ records_taken prints last before part (length out₀)) where
    bytes-are : min (8 * records) (length part) ≡ Bytes
    unfolding bytes_taken bytes_of
    bytes-are = rw taken refl

    -- a step that takes nothing
    pub nothing-fed : records ≡ 0 → Fed after_bytes (told_of prints) Bytes before part out₀ out₀ before 0 0
    nothing-fed none =
        let no_bytes : Bytes ≡ 0 = sym bytes-are ∙ omega (arith, none) in
        record {
          taken = sym no_bytes;
          become = sym (ap (λ (k : ℕ). after_bytes before (take k part)) no_bytes ∙ none_after before);
          ended = sym (ap (λ (k : ℕ). length (told_of prints before (take k part))) no_bytes ∙ ap length (none_told prints before));
          stored =
              sym
              (ap (λ (k : ℕ). told_of prints before (take k part) ++ out₀) no_bytes
              ∙ ap (λ (l : List ℕ). l ++ out₀) (none_told prints before));
        }

    -- a step that takes some
    module _ (used : ℕ) (least : used ≡ min (8 * records) (length part)) where
      used-bytes : used ≡ Bytes
      used-bytes = least ∙ bytes-are

      so-many : item_count (take used part) ≡ records
      so-many = taken-count prints last before part (length out₀) used (least ∙ ap (λ (k : ℕ). min (8 * k) (length part)) taken) ∙ sym taken

      pub some-run : (records ≡ 0 → ⊥)
          → T (sound before.file)
          × ((item_count (take used part) ≤ 1024)
          × ((prints ≡ true → 30 * item_count (take used part) ≤ length out₀) × (before.number + item_count (take used part) < 2 ^ 64)))
      some-run some =
          let many = so-many ∙ taken in
          let numbers = within-numbers prints last before part (length out₀) in (
            taken-sound prints last before part (length out₀) (λ z. some (taken ∙ z)),
            (
              omega (arith, many, within_step prints last before part (length out₀)),
              (
                λ e. omega (arith, many, within-room prints last before part (length out₀) e),
                omega (arith, many, taken, some, numbers),
              ),
            ),
          )

      pub some-fed : (out : List ℕ) (r : TraceFed) → Stepped prints before (take used part) out₀ out r
          → Fed after_bytes (told_of prints) Bytes before part out₀ out r.job r.used r.end
      some-fed out r stepped =
          let short : used ≤ length part = omega (arith, least) in
          let here : Stepped prints before (take Bytes part) out₀ out r =
          subst (λ (k : ℕ). Stepped prints before (take k part) out₀ out r) used-bytes stepped in
          record {
            taken = stepped.used ∙ length-take-le used part short ∙ used-bytes;
            become = here.become;
            ended = here.end;
            stored = here.printed;
          }

  -- what is taken is whole records, unless it is the end of the last part
  pub whole-taken : last ≡ false → WholeRecords (take Bytes part)
  unfolding WholeRecords bytes_taken bytes_of
  whole-taken e =
      let few = within-units prints last before part (length out₀) in
      rw length-take (omega (arith, few, whole-within last part e))

  pub whole_before : Bytes < length part → WholeRecords (take Bytes part)
  unfolding WholeRecords bytes_taken bytes_of
  whole_before more = rw length-take (omega (arith, more))
