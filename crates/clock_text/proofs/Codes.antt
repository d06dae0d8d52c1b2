-- Which of the listed codes a report, a part of one and the summary answer. Assumes nothing.
use Prim.Native.Nat.{ℕ, ◌+◌}
use mathlib.Core.Bool.{cond}
use mathlib.Core.List.{List, [], ◌∷◌}
use lib.Dec.{T, leb}
use lib.ListN.{length}
use Rattle.bits.proofs.Test.{chosen}
use Rattle.file.specs.declared.answer.Answer.TheVariants.{Done, OutOfRange, ShortBuffer}
use Rattle.file.specs.Answers.{code_of, one_of}
use Rattle.clock_text.specs.declared.tally.Tally.{Tally}
use Rattle.clock_text.specs.Parts.{counts_fit, part_answer, report_answer, sets_fit, summary_answer, summary_most}
use Rattle.clock_text.specs.Sets.{set_count}

pub report-codes : (input lines : List ℕ) → T (one_of (0 ∷ 11 ∷ []) (report_answer input lines))
unfolding report_answer one_of code_of
report-codes input lines = chosen (one_of (0 ∷ 11 ∷ [])) (sets_fit (set_count input) summary_most (length lines)) (Done 0) ShortBuffer tt tt

pub summary-codes : (lines : List ℕ) (at : ℕ) → T (one_of (0 ∷ 11 ∷ []) (summary_answer lines at))
unfolding summary_answer one_of code_of
summary-codes lines at = chosen (one_of (0 ∷ 11 ∷ [])) (leb (at + summary_most) (length lines)) (Done 0) ShortBuffer tt tt

pub part-codes : (before : Tally) (part lines : List ℕ) → T (one_of (0 ∷ 10 ∷ 11 ∷ []) (part_answer before part lines))
unfolding part_answer one_of code_of
part-codes before part lines =
    chosen (one_of (0 ∷ 10 ∷ 11 ∷ [])) (sets_fit (set_count part) 0 (length lines)) (cond (counts_fit before (set_count part)) (Done 0) OutOfRange) ShortBuffer
    (chosen (one_of (0 ∷ 10 ∷ 11 ∷ [])) (counts_fit before (set_count part)) (Done 0) OutOfRange tt tt) tt
