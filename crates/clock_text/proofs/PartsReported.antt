-- A part of the input, the summary and the whole, over a buffer. Assumes nothing.
use Rattle.std.specs.Prelude.{Result, Ok, Err}
use Prim.Native.Nat.{ℕ, ◌+◌, ◌*◌, ◌≤◌}
use mathlib.Core.Bool.{true, false, ◌&&◌}
use mathlib.Core.List.{List}
use mathlib.Core.Path.{◌≡◌, refl, sym, ap, ap₂, ◌∙◌}
use native.Mathlib.Nat.{zero-add}
use native.Mathlib.Omega.{arith}
use borrow.Author.Tests.{le-leb, leb-true}
use lib.Dec.{T, leb, leb→le}
use lib.ListN.{length, length-append}
use lib.Seq.{length-sets, sets-eq}
use Rattle.bits.proofs.Test.{left, right, passes}
use Rattle.file.specs.declared.answer.Answer.{Answer}
use Rattle.file.specs.declared.answer.Answer.TheVariants.{Done, OutOfRange, ShortBuffer}
use Rattle.file.specs.Answers.{code_of, refused}
use Rattle.text.specs.declared.placed.Placed.{Placed}
use Rattle.text.specs.Lent.{Lined, Wrote, placed_by}
use Rattle.text.proofs.Stores.{then-text, unplaced, whole, wrote}
use Rattle.clock_text.specs.declared.parts.SetsPart.{SetsPart}
use Rattle.clock_text.specs.declared.tally.Tally.{Tally}
use Rattle.clock_text.specs.Parts.{Countable, LinesPut, PartReported, counts_fit, part_answer, part_left, report_answer, sets_fit, summary_answer, summary_most}
use Rattle.clock_text.specs.Report.{clock_lines, report, summary}
use Rattle.clock_text.specs.Sets.{no_tally, set_clocks, set_count, tallied}
use Rattle.clock_text.proofs.Lengths.{Sized, lines-most, summary-most}

-- the tests as facts
pub sets-room : (count last lines : ℕ) → sets_fit count last lines ≡ true → 15 * count + last ≤ lines
unfolding sets_fit
sets-room count last lines e = leb-true (15 * count + last) lines e

pub countable : (t : Tally) (count : ℕ) → counts_fit t count ≡ true → Countable t count
unfolding counts_fit
countable t count e =
    let first = leb (t.rates + count) 18446744073709551615 in
    let second = leb (t.nones + count) 18446744073709551615 in
    let third = leb (t.refused + count) 18446744073709551615 in
    let all : T (first && second && third) = passes (counts_fit t count) e in
    record {
      rates = leb→le (t.rates + count) 18446744073709551615 (left first second (left (first && second) third all));
      nones = leb→le (t.nones + count) 18446744073709551615 (right first second (left (first && second) third all));
      refused = leb→le (t.refused + count) 18446744073709551615 (right (first && second) third all);
    }

module _ (before : Tally) (part lines₀ : List ℕ) where
  -- refused: nothing is counted, and the buffer stays
  refusal : (answer : Answer) → part_answer before part lines₀ ≡ answer → refused answer ≡ true → PartReported before part lines₀ lines₀ (Err answer)
  unfolding placed_by
  refusal answer e r = record { answered = rw (e, r) refl; lined = rw (e, r) refl }

  pub part-short : sets_fit (set_count part) 0 (length lines₀) ≡ false → PartReported before part lines₀ lines₀ (Err ShortBuffer)
  unfolding part_answer refused code_of
  part-short e = refusal ShortBuffer (rw e refl) refl

  pub part-full : sets_fit (set_count part) 0 (length lines₀) ≡ true → counts_fit before (set_count part) ≡ false
      → PartReported before part lines₀ lines₀ (Err OutOfRange)
  unfolding part_answer refused code_of
  part-full e n = refusal OutOfRange (rw (e, n) refl) refl

  -- what is left of a part that is not
  left_is : (lines : List ℕ) (r : SetsPart) → LinesPut before part lines₀ lines r → r ≡ part_left before part
  unfolding part_left
  left_is lines r p = ap₂ (λ (t : Tally) (n : ℕ). record { tally = t; end = n }) p.tally (p.wrote.place ∙ zero-add _)

  pub part-done : sets_fit (set_count part) 0 (length lines₀) ≡ true → counts_fit before (set_count part) ≡ true → (lines : List ℕ) (r : SetsPart)
      → LinesPut before part lines₀ lines r → PartReported before part lines₀ lines (Ok r)
  unfolding part_answer placed_by refused code_of
  part-done e n lines r p =
      let room = sets-room (set_count part) 0 (length lines₀) e in
      record {
        answered = rw (e, n) (ap Ok (left_is lines r p));
        lined = rw (e, n) (p.wrote.bytes ∙ sets-eq (clock_lines (set_clocks part)) lines₀ 0 (omega (arith, room, lines-most part)));
      }

-- the summary
module _ (lines₀ : List ℕ) (at : ℕ) (t : Tally) where
  pub summary-short : leb (at + summary_most) (length lines₀) ≡ false
      → Lined (summary_answer lines₀ at) at (summary t) lines₀ lines₀ (record { answer = ShortBuffer; end = at })
  unfolding summary_answer refused code_of
  summary-short e = unplaced lines₀ at (summary t) ShortBuffer (rw e refl) refl

  pub summary-done : leb (at + summary_most) (length lines₀) ≡ true → Sized t → (lines : List ℕ) (end : ℕ) → Wrote lines₀ at (summary t) lines end
      → Lined (summary_answer lines₀ at) at (summary t) lines₀ lines (record { answer = Done 0; end = end })
  unfolding summary_answer
  summary-done e s lines end w =
      whole lines₀ at (summary t) (rw e refl) (omega (arith, leb-true (at + summary_most) (length lines₀) e, summary-most t s)) w

-- the whole
module _ (input lines₀ : List ℕ) where
  pub report-short : sets_fit (set_count input) summary_most (length lines₀) ≡ false
      → Lined (report_answer input lines₀) 0 (report input) lines₀ lines₀ (record { answer = ShortBuffer; end = 0 })
  unfolding report_answer refused code_of
  report-short e = unplaced lines₀ 0 (report input) ShortBuffer (rw e refl) refl

  module _ (room : sets_fit (set_count input) summary_most (length lines₀) ≡ true) (few : set_count input ≤ 18446744073709551615) where
    wide : 15 * set_count input + summary_most ≤ length lines₀
    wide = sets-room (set_count input) summary_most (length lines₀) room

    answers : part_answer no_tally input lines₀ ≡ Done 0
    unfolding part_answer sets_fit counts_fit no_tally
    answers =
        rw (le-leb (15 * set_count input + 0) (length lines₀) (omega (arith, wide)), le-leb (0 + set_count input) 18446744073709551615 (omega (arith, few)))

    module _ (r : Result SetsPart Answer) (lines₁ : List ℕ) (parted : PartReported no_tally input lines₀ lines₁ r) where
      told : r ≡ Ok (part_left no_tally input)
      unfolding refused code_of
      told = parted.answered ∙ rw answers refl

      -- so it is not refused
      pub never-refused : (answer : Answer) → r ≡ Err answer → ⊥
      never-refused answer e =
          let never : ◌≡◌ {A = Result SetsPart Answer} (Ok (part_left no_tally input)) (Err answer) = sym told ∙ e in cc

      lines-wrote : Wrote lines₀ 0 (clock_lines (set_clocks input)) lines₁ (part_left no_tally input).end
      unfolding placed_by refused code_of part_left
      lines-wrote =
          record {
            bytes =
                parted.lined
                ∙ rw answers (sym (sets-eq (clock_lines (set_clocks input)) lines₀ 0 (omega (arith, wide, lines-most input))));
            place = omega arith;
          }

      -- and then the summary
      module _ (p : SetsPart) (so : r ≡ Ok p) (short : length (summary p.tally) ≤ summary_most) (lines₂ : List ℕ) (last : Placed)
          (lined : Lined (summary_answer lines₁ p.end) p.end (summary p.tally) lines₁ lines₂ last) where
        parts : p ≡ part_left no_tally input
        parts = let same : ◌≡◌ {A = Result SetsPart Answer} (Ok p) (Ok (part_left no_tally input)) = sym so ∙ told in cc

        counted : p.tally ≡ tallied no_tally (set_clocks input)
        unfolding part_left
        counted = ap (λ (x : SetsPart). x.tally) parts

        ends : Wrote lines₀ 0 (clock_lines (set_clocks input)) lines₁ p.end
        ends = rw parts lines-wrote

        pub report-done : Lined (report_answer input lines₀) 0 (report input) lines₀ lines₂ last
        unfolding report_answer report summary_answer
        report-done =
            let long : length lines₁ ≡ length lines₀ = ap length ends.bytes ∙ length-sets lines₀ 0 (clock_lines (set_clocks input)) in
            let left_over : p.end + summary_most ≤ length lines₁ = omega (arith, wide, lines-most input, long, ends.place) in
            let yes : summary_answer lines₁ p.end ≡ Done 0 = rw (le-leb (p.end + summary_most) (length lines₁) left_over) refl in
            let same = ap (λ (t : Tally). length (summary t)) counted in
            let both = rw counted at (then-text ends (wrote lines₁ p.end (summary p.tally) yes (omega (arith, left_over, short)) lined)) in
            let all = whole lines₀ 0 (report input) {answer = report_answer input lines₀} (rw room refl) (simp length-append (omega (arith, wide, lines-most input, short, same))) both in
            record { answered = lined.answered ∙ yes ∙ all.answered; ended = all.ended; bytes = all.bytes }
