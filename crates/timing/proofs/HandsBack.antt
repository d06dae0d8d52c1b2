-- What the contracts of `read_timing` and `write_timing` tell of what they hand back, for every file and every timing. Assumes nothing.
use Prim.Native.Nat.{ℕ}
use mathlib.Core.Path.{◌≡◌, refl, sym, ap, ◌∙◌, subst}
use mathlib.Core.Bool.{false}
use mathlib.Core.List.{[], ◌∷◌}
use mathlib.Core.Logic.{◌↔◌}
use native.Mathlib.Omega.{arith}
use lib.Dec.{T}
use Rattle.bits.specs.Numbers.{read_numbers}
use Rattle.bits.proofs.Test.{by-test, chosen}
use Rattle.file.specs.declared.answer.Answer.TheVariants.{Done}
use Rattle.file.specs.declared.registers.File.{File}
use Rattle.file.specs.Answers.{code_of, one_of}
use Rattle.file.specs.File.{crtc_locked}
use Rattle.file.specs.Sound.{sound}
use Rattle.timing.specs.declared.Read.{Read}
use Rattle.timing.specs.declared.Timing.{Timing}
use Rattle.timing.specs.declared.Written.{Written}
use Rattle.timing.specs.Layout.{layout, answer_by}
use Rattle.timing.specs.Ranges.{all_lie_in, ranges}
use Rattle.timing.specs.Table.{table, wide}
use Rattle.timing.specs.Timing.{timing_of, numbers_of, timing_in, read_timing, timing_answer, write_timing}
use Rattle.timing.proofs.Cases.{read-unsound, read_done}
use Rattle.timing.proofs.Layouts.{codes-by}
use Rattle.timing.proofs.Ranges.{read-in-ranges, accepted-in-ranges}
use Rattle.timing.proofs.Writer.{reads-back}

module _ (f : File) (r : Read) (met : r ≡ read_timing f) where
  -- the reader's code is 0 or 12
  pub read-codes : T (one_of (0 ∷ 12 ∷ []) r.answer)
  unfolding one_of code_of read_timing
  read-codes =
      subst (λ (x : Read). T (one_of (0 ∷ 12 ∷ []) x.answer)) (sym met)
      (chosen (λ (x : Read). one_of (0 ∷ 12 ∷ []) x.answer) (sound f) _ _ tt tt)

  -- with 0, each number lies in 01's range
  pub read-lies : r.answer ≡ Done 0 → T (all_lie_in (ranges (wide f)) (numbers_of r.timing))
  unfolding code_of timing_in
  read-lies done =
      by-test (sound f)
      (λ s. subst (λ (x : Read). T (all_lie_in (ranges (wide f)) (numbers_of x.timing)))
      (read_done f (timing_in f) (wide f) (read_numbers (table (wide f)) f.registers) s refl refl refl ∙ sym met) (read-in-ranges f))
      (λ n. let z : ◌≡◌ {A = ℕ} 12 0 = ap (λ (x : Read). code_of x.answer) (read-unsound f (timing_of []) n refl ∙ sym met) ∙ ap code_of done in
      absurd (omega arith))

module _ (f : File) (t : Timing) (w : Written) (met : w ≡ write_timing f t) where
  -- the writer's code is 0, 8, 10 or 12
  pub written-codes : T (one_of (0 ∷ 8 ∷ 10 ∷ 12 ∷ []) w.answer)
  unfolding write_timing timing_answer answer_by
  written-codes =
      subst (λ (x : Written). T (one_of (0 ∷ 8 ∷ 10 ∷ 12 ∷ []) x.answer)) (sym met)
      (codes-by (layout f.state.chip (wide f)) (sound f) (crtc_locked f) (numbers_of t))

  -- in a sound and unlocked file it is 0 exactly where each number lies in 01's range
  pub written-in-ranges : T (sound f) → crtc_locked f ≡ false → (w.answer ≡ Done 0) ↔ T (all_lie_in (ranges (wide f)) (numbers_of t))
  unfolding write_timing
  written-in-ranges s u =
      subst (λ (x : Written). (x.answer ≡ Done 0) ↔ T (all_lie_in (ranges (wide f)) (numbers_of t))) (sym met) (accepted-in-ranges f t s u)

  -- what the writer accepts, the reader gives back
  pub accepted-reads-back : (r : Read) → w.answer ≡ Done 0 → r ≡ read_timing w.file → r ≡ record { answer = Done 0; timing = t }
  unfolding write_timing
  accepted-reads-back r accepted read =
      read ∙ ap (λ (x : Written). read_timing x.file) met
      ∙ reads-back f t (sym (ap (λ (x : Written). x.answer) met) ∙ accepted)
