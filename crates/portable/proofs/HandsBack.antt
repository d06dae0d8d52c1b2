-- What the contracts of `read_timing` and `write_timing` tell of what they hand back, for all bytes and every timing. Assumes nothing.
use Prim.Native.Nat.{ℕ}
use mathlib.Core.Path.{◌≡◌, sym, ap, ◌∙◌, subst}
use mathlib.Core.List.{List, [], ◌∷◌}
use mathlib.Core.Logic.{◌↔◌}
use lib.Dec.{T}
use Rattle.bits.proofs.Test.{chosen, is_true}
use Rattle.file.specs.declared.answer.Answer.{Answer}
use Rattle.file.specs.declared.answer.Answer.TheVariants.{Done}
use Rattle.file.specs.Answers.{code_of, one_of, refused}
use Rattle.timing.specs.Layout.{registers_after}
use Rattle.timing.proofs.Layouts.{codes-by}
use Rattle.portable.specs.declared.Read.{Read}
use Rattle.portable.specs.declared.Timing.{Timing}
use Rattle.portable.specs.Promises.{Passes, SameOutsideTable}
use Rattle.portable.specs.Table.{layout}
use Rattle.portable.specs.Timing.{numbers_of, readable, locked, read_timing, timing_answer, bytes_after, Written}
use Rattle.portable.proofs.Writer.{accepted, reads-back, same-outside}

-- the reader's code is 0 or 12
pub read-codes : (bytes : List ℕ) (r : Read) → r ≡ read_timing bytes → T (one_of (0 ∷ 12 ∷ []) r.answer)
unfolding one_of code_of read_timing
read-codes bytes r met =
    subst (λ (x : Read). T (one_of (0 ∷ 12 ∷ []) x.answer)) (sym met)
    (chosen (λ (x : Read). one_of (0 ∷ 12 ∷ []) x.answer) (readable bytes) _ _ tt tt)

module _ (before after : List ℕ) (t : Timing) (answer : Answer) (met : Written before t answer after) where
  -- the writer's code is 0, 8, 10 or 12
  pub written-codes : T (one_of (0 ∷ 8 ∷ 10 ∷ 12 ∷ []) answer)
  unfolding timing_answer
  written-codes =
      subst (λ (a : Answer). T (one_of (0 ∷ 8 ∷ 10 ∷ 12 ∷ []) a)) (sym met.answered)
      (codes-by layout (readable before) (locked before) (numbers_of t))

  -- it is 0 exactly for 28 unlocked bytes and fourteen numbers in their ranges
  pub written-accepted : (answer ≡ Done 0) ↔ Passes before t
  written-accepted = rw met.answered (accepted before t)

  -- a refusal leaves the bytes as found
  pub refusal-leaves : T (refused answer) → after ≡ before
  unfolding bytes_after registers_after
  refusal-leaves r =
      met.bytes
      ∙ ap (λ (a : Answer). registers_after layout a (numbers_of t) before) (sym met.answered)
      ∙ rw (is_true (refused answer) r)

  -- what the writer accepts, the reader gives back
  pub accepted-reads-back : (r : Read) → answer ≡ Done 0 → r ≡ read_timing after → r ≡ record { answer = Done 0; timing = t }
  accepted-reads-back r done read = read ∙ ap read_timing met.bytes ∙ reads-back before t (sym met.answered ∙ done)

  -- and no bit moves that Table 9-1 does not name
  pub others-left : SameOutsideTable before after
  others-left = subst (SameOutsideTable before) (sym met.bytes) (same-outside before t)
