-- However an input is cut into parts, the lines that are told of them, and then the summary, are the report of the whole. Assumes nothing.
use Prim.Native.Nat.{ℕ, ◌<◌}
use mathlib.Core.Bool.{Bool, false}
use mathlib.Core.List.{List, ◌++◌}
use mathlib.Core.Logic.{◌⊎◌}
use mathlib.Core.Path.{◌≡◌, refl, ap, ap₂, ◌∙◌}
use native.Mathlib.Omega.{arith}
use lib.ListN.{length, take, drop, length-append}
use lib.Seq.{length-take-le, take-append_seam}
use Rattle.bits.proofs.Test.{by-test}
use Rattle.feeding.specs.Feeding.{Additive, Parts, WholeInput}
use Rattle.feeding.specs.Feeding.Parts.{then}
use Rattle.feeding.specs.Feeding.WholeInput.{ending}
use Rattle.feeding.proofs.AsTheWhole.{input-after, input-told}
use Rattle.clock_text.specs.declared.tally.Tally.{Tally}
use Rattle.clock_text.specs.Parts.{counts_fit}
use Rattle.clock_text.specs.Report.{clock_lines, report, summary}
use Rattle.clock_text.specs.Sets.{no_tally, set_clocks, tallied}
use Rattle.clock_text.proofs.InParts.{lines-in-parts, sets-in-parts, tally-in-parts}
use Rattle.job_clocks.specs.Clocks.{ClocksFed, ClocksStep, WholeSets, bytes_taken, lines_told, set_bytes, sets_roomed, tally_after}
use Rattle.job_clocks.proofs.Step.{bytes-within, whole_by}

pub clocks-additive : Additive WholeSets tally_after lines_told
unfolding tally_after lines_told set_clocks clock_lines tallied
clocks-additive =
    record {
      whole-none = refl;
      whole_parts = λ a b wa wb. rw length-append (omega (arith, wa, wb));
      after_none = λ j. refl;
      told_none = λ j. refl;
      after-parts = λ j a b wa. ap (tallied j) (sets-in-parts a b wa) ∙ tally-in-parts j (set_clocks a) (set_clocks b);
      told-parts = λ j a b wa. ap clock_lines (sets-in-parts a b wa) ∙ lines-in-parts (set_clocks a) (set_clocks b);
    }

-- a step takes whole sets, but where it takes the last part to its end
module _ (before : Tally) (last : Bool) (part : List ℕ) (room : ℕ) where
  pub step-whole : (last ≡ false) ⊎ (bytes_taken before last part room < length part) → WholeSets (take (bytes_taken before last part room) part)
  unfolding bytes_taken
  step-whole h =
      by-test (counts_fit before (sets_roomed last part room))
      (λ t. rw (t, length-take-le (set_bytes last part room) part (bytes-within last part room)) (whole_by last part room last refl (rw t at h)))
      (λ t. rw t refl)

-- so the steps that `feed` takes, one after the other, are the parts of an input
module _ {input text : List ℕ} {before : Tally} (fed : Parts WholeSets tally_after lines_told no_tally input text before)
    (part out₀ out : List ℕ) (last : Bool) (r : ClocksFed) (step : ClocksStep before part last out₀ out r) where
  abbrev Bytes : List ℕ
  Bytes = take (bytes_taken before last part (length out₀)) part

  -- what stands in the buffer up to where the lines end is the lines
  shown : take r.end out ≡ lines_told before Bytes
  shown =
      ap₂ (λ (k : ℕ) (l : List ℕ). take k l) step.ended step.stored
      ∙ take-append_seam (lines_told before Bytes) (drop r.end out₀)

  used : take r.used part ≡ Bytes
  used = ap (λ (k : ℕ). take k part) step.taken

  pub clocks-next : (last ≡ false) ⊎ (r.used < length part)
      → Parts WholeSets tally_after lines_told no_tally (input ++ take r.used part) (text ++ take r.end out) r.job
  clocks-next h =
      rw (used, shown, step.become) (then Bytes fed (step-whole before last part (length out₀) (rw step.taken at h)))

  pub clocks-last : WholeInput WholeSets tally_after lines_told no_tally (input ++ take r.used part) (text ++ take r.end out) r.job
  clocks-last = rw (used, shown, step.become) (ending Bytes fed)

-- the theorem of the command: the text of the parts, and what closing puts out, is what the command prints of the whole input
pub clocks-whole : {input text : List ℕ} {tally : Tally} → WholeInput WholeSets tally_after lines_told no_tally input text tally
    → text ++ summary tally ≡ report input
unfolding tally_after lines_told report
clocks-whole fed =
    ap₂ (λ (t : List ℕ) (j : Tally). t ++ summary j) (input-told clocks-additive fed) (input-after clocks-additive fed)
