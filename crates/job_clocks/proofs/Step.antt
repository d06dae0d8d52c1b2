-- One step of the job, from what is reported of the part's first bytes. Assumes nothing.
use Rattle.std.specs.Prelude.{Result, Ok, Err}
use Prim.Native.Nat.{ℕ, ◌+◌, ◌*◌, ◌/◌, ◌%◌, ◌≤◌, ◌<◌}
use mathlib.Core.Bool.{Bool, true, false, cond, true≢false}
use mathlib.Core.List.{List, ◌++◌}
use mathlib.Core.Logic.{◌⊎◌, inl, inr}
use mathlib.Core.Path.{◌≡◌, refl, sym, ap, ◌∙◌}
use native.Mathlib.Nat.{zero-add}
use native.Mathlib.Omega.{arith}
use borrow.Author.Tests.{le-leb}
use lib.ListN.{length, take, drop}
use lib.Seq.{length-take-le}
use Rattle.bits.proofs.Test.{by-test}
use Rattle.file.specs.declared.answer.Answer.{Answer}
use Rattle.file.specs.declared.answer.Answer.TheVariants.{Done, OutOfRange}
use Rattle.file.specs.Answers.{code_of, refused}
use Rattle.text.specs.Lent.{placed_by}
use Rattle.feeding.specs.Feeding.{Fed, bytes_of, units_in}
use Rattle.clock_text.specs.declared.parts.SetsPart.{SetsPart}
use Rattle.clock_text.specs.declared.tally.Tally.{Tally}
use Rattle.clock_text.specs.Parts.{PartReported, counts_fit, part_answer, part_left, sets_fit}
use Rattle.clock_text.specs.Report.{clock_lines}
use Rattle.clock_text.specs.Sets.{set_clocks, set_count, tallied}
use Rattle.job_clocks.specs.Clocks.{bytes_taken, lines_told, set_bytes, sets_roomed, tally_after}

-- the bytes of a part that have room
module _ (last : Bool) (part : List ℕ) (room : ℕ) where
  abbrev Sets : ℕ
  Sets = sets_roomed last part room

  abbrev Size : ℕ
  Size = set_bytes last part room

  pub bytes-within : Size ≤ length part
  unfolding set_bytes bytes_of
  bytes-within = omega arith

  -- they are as many sets as have room
  sets-by : (b : Bool) → last ≡ b → (Size + 2) / 3 ≡ Sets
  unfolding set_bytes bytes_of sets_roomed units_in
  sets-by true e = rw e (omega arith)
  sets-by false e = rw e (omega arith)

  pub sets-taken : set_count (take Size part) ≡ Sets
  unfolding set_count
  sets-taken = ap (λ (n : ℕ). (n + 2) / 3) (length-take-le Size part bytes-within) ∙ sets-by last refl

  sets-roomed : 15 * Sets + 0 ≤ room
  unfolding sets_roomed
  sets-roomed = omega arith

  -- whole ones, but for a fragment at the end of the last part
  pub whole_by : (b : Bool) → last ≡ b → (b ≡ false) ⊎ (Size < length part) → Size % 3 ≡ 0
  unfolding set_bytes bytes_of sets_roomed units_in
  whole_by true e (inl h) = absurd (true≢false h)
  whole_by true e (inr h) = omega (arith, h)
  whole_by false e h = rw e (omega arith)

-- what is reported of these bytes is the step
module _ (before : Tally) (last : Bool) (part out₀ out : List ℕ) (r : Result SetsPart Answer) where
  abbrev Room : ℕ
  Room = length out₀

  abbrev Bytes : List ℕ
  Bytes = take (set_bytes last part Room) part

  -- a step that takes a number of bytes
  abbrev Step : ℕ → Tally → ℕ → ℕ → Type 0
  Step bytes tally used end = Fed tally_after lines_told bytes before part out₀ out tally used end

  module _ (reported : PartReported before Bytes out₀ out r) where
    answers : part_answer before Bytes out₀ ≡ cond (counts_fit before (sets_roomed last part Room)) (Done 0) OutOfRange
    unfolding part_answer sets_fit
    answers =
        rw (sets-taken last part Room, le-leb (15 * sets_roomed last part Room + 0) Room (sets-roomed last part Room)) refl

    -- it is done where the counts have room, and else nothing is
    module _ (t : counts_fit before (sets_roomed last part Room) ≡ true) where
      done : part_answer before Bytes out₀ ≡ Done 0
      done = answers ∙ rw t refl

      told : r ≡ Ok (part_left before Bytes)
      unfolding refused code_of
      told = reported.answered ∙ rw done refl

      stored : out ≡ clock_lines (set_clocks Bytes) ++ drop (length (clock_lines (set_clocks Bytes))) out₀
      unfolding placed_by refused code_of
      stored = reported.lined ∙ rw done (ap (λ (k : ℕ). clock_lines (set_clocks Bytes) ++ drop k out₀) (zero-add _))

    module _ (t : counts_fit before (sets_roomed last part Room) ≡ false) where
      over : part_answer before Bytes out₀ ≡ OutOfRange
      over = answers ∙ rw t refl

      refusal : r ≡ Err OutOfRange
      unfolding refused code_of
      refusal = reported.answered ∙ rw over refl

      kept : out ≡ out₀
      unfolding placed_by refused code_of
      kept = reported.lined ∙ rw over refl

    step-done : (p : SetsPart) → r ≡ Ok p → Step (bytes_taken before last part Room) p.tally (set_bytes last part Room) p.end
    unfolding bytes_taken tally_after lines_told part_left
    step-done p e =
        by-test (counts_fit before (sets_roomed last part Room))
        (λ t. let same : ◌≡◌ {A = Result SetsPart Answer} (Ok p) (Ok (part_left before Bytes)) = sym e ∙ told t in
        let parts : p ≡ part_left before Bytes = cc in
        rw (t, parts) (record { taken = refl; become = refl; ended = refl; stored = stored t }))
        (λ t. let never : ◌≡◌ {A = Result SetsPart Answer} (Ok p) (Err OutOfRange) = sym e ∙ refusal t in absurd (cc))

    step-full : (answer : Answer) → r ≡ Err answer → Step (bytes_taken before last part Room) before 0 0
    unfolding bytes_taken tally_after lines_told tallied set_clocks clock_lines
    step-full answer e =
        by-test (counts_fit before (sets_roomed last part Room))
        (λ t. let never : ◌≡◌ {A = Result SetsPart Answer} (Ok (part_left before Bytes)) (Err answer) = sym (told t) ∙ e in absurd (cc))
        (λ t. rw t (record { taken = refl; become = refl; ended = refl; stored = kept t }))

  -- by how many bytes were found to have room
  module _ (size : ℕ) (e : size ≡ set_bytes last part Room) (reported : PartReported before (take size part) out₀ out r) where
    pub fed-done : (p : SetsPart) → r ≡ Ok p → Step (bytes_taken before last part Room) p.tally size p.end
    fed-done p so = rw e (step-done (rw e at reported) p so)

    pub fed-full : (answer : Answer) → r ≡ Err answer → Step (bytes_taken before last part Room) before 0 0
    fed-full answer so = step-full (rw e at reported) answer so
