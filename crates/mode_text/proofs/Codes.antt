-- Which of the listed codes writing a line answers, and that a refusal leaves the buffer. Assumes nothing.
use Prim.Native.Nat.{ℕ}
use mathlib.Core.Bool.{Bool, cond, ◌&&◌}
use mathlib.Core.List.{List, [], ◌∷◌, ◌++◌}
use mathlib.Core.Path.{◌≡◌, refl, sym, ap, ◌∙◌, subst}
use borrow.Author.Tests.{ne_eqb}
use lib.Dec.{T, leb}
use lib.ListN.{length, drop}
use Rattle.bits.proofs.Test.{chosen}
use Rattle.file.specs.Answers.{among}
use Rattle.file.specs.Sound.{sound}
use Rattle.file.specs.declared.registers.File.{File}
use Rattle.timing.specs.Timing.{timing_in}
use Rattle.mode_file.specs.Verdicts.{number_of, code_said}
use Rattle.std.specs.Prelude.{Result, Ok, Err}
use Rattle.mode_file.specs.declared.verdict.Verdict.{Verdict}
use Rattle.mode_file.specs.declared.verdict.Verdict.TheVariants.{NotSound, OtherTiming, OutOfForm}
use Rattle.mode_text.specs.Out.{name_fits, clock_fits, of_form, line_out, write_verdict, done, WroteFrom}

only_verdict : (r : Result ℕ Verdict) → (code_said r ≡ 0 → ⊥) → (v : Verdict) × (r ≡ Err v)
unfolding code_said
only_verdict (Ok size) n = absurd (n refl)
only_verdict (Err v) n = (v, refl)

module _ (f : File) (name : List ℕ) (khz : ℕ) (before after : List ℕ) (r : Result ℕ Verdict) (met : WroteFrom f name khz before after r) where
  abbrev listed : Result ℕ Verdict → Bool
  listed x = among (0 ∷ 12 ∷ 21 ∷ 22 ∷ []) (code_said x)

  pub writing-codes : T (among (0 ∷ 12 ∷ 21 ∷ 22 ∷ []) (code_said r))
  unfolding write_verdict among number_of code_said
  writing-codes =
      subst (λ (x : Result ℕ Verdict). T (listed x)) (sym met.answered)
      (chosen listed (sound f) _ (Err NotSound)
      (chosen listed (name_fits name && clock_fits khz && leb 256 (length before)) _ (Err OutOfForm)
      (chosen listed (of_form (timing_in f)) (Ok (length (line_out f name khz))) (Err OtherTiming) tt tt) tt) tt)

  -- a refusal has no size either: it is a verdict alone
  pub writing-refused : (code_said r ≡ 0 → ⊥) → (after ≡ before) × (v : Verdict) × (r ≡ Err v)
  unfolding done
  writing-refused n =
      let v = only_verdict r n in (
        met.bytes
            ∙ ap (λ (b : Bool). cond b (line_out f name khz ++ drop (length (line_out f name khz)) before) before) (ne_eqb (code_said r) 0 n),
        v.0,
        v.1,
      )
