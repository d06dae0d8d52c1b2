-- What the contract of `clock` tells of what it hands back, for every file. Assumes nothing.
use Prim.Native.Nat.{ℕ, ◌<◌}
use mathlib.Core.Bool.{true, false}
use mathlib.Core.List.{[], ◌∷◌}
use mathlib.Core.Path.{◌≡◌, refl, sym, ap, ◌∙◌, subst}
use native.Mathlib.Omega.{arith}
use borrow.Author.Tests.{eq-eqb, eqb-true, ne_eqb}
use lib.Dec.{T, eqb}
use lib.Ieee.{binary64, round}
use Rattle.bits.proofs.Test.{by-test, chosen}
use Rattle.file.specs.declared.registers.File.{File}
use Rattle.file.specs.Answers.{code_of, one_of}
use Rattle.file.specs.Sound.{sound}
use Rattle.std.specs.Prelude.{Some, None}
use Rattle.clock.specs.declared.reader.ClockRead.{ClockRead}
use Rattle.clock.specs.Clock.{denominator, denominator_byte, divisor, dot_clock, numerator_byte, product, read_clock, terms_of}
use Rattle.clock.specs.Lowest.{lowest, no_terms}
use Rattle.clock.proofs.RateRounds.{rounded-once, terms-are}

-- 02, 12/13: 'there is none, which is so exactly when the denominator is 0'; then both whole numbers are 0
module _ (d n : ℕ) where
  pub none-there : denominator d ≡ 0 → (dot_clock d n ≡ None) × (terms_of d n ≡ no_terms)
  unfolding dot_clock terms_of
  none-there e = (rw (eq-eqb (denominator d) 0 e), rw (eq-eqb (denominator d) 0 e))

  pub none_only : dot_clock d n ≡ None → denominator d ≡ 0
  unfolding dot_clock
  none_only e =
      by-test (eqb (denominator d) 0) (λ t. eqb-true (denominator d) 0 t)
      (λ t. let never : ◌≡◌ {A = ℕ} 0 1 = cc (rw t at e) in absurd (omega arith))

module _ (f : File) (r : ClockRead) (met : r ≡ read_clock f) where
  -- its code is 0 or 12
  pub clock-codes : T (one_of (0 ∷ 12 ∷ []) r.answer)
  unfolding one_of code_of read_clock
  clock-codes =
      subst (λ (x : ClockRead). T (one_of (0 ∷ 12 ∷ []) x.answer)) (sym met)
      (chosen (λ (x : ClockRead). one_of (0 ∷ 12 ∷ []) x.answer) (sound f) _ _ tt tt)

  -- of an unsound file: 12, no rate, and both whole numbers 0
  pub clock-unsound : sound f ≡ false → (code_of r.answer ≡ 12) × ((r.clock ≡ None) × (r.terms ≡ no_terms))
  unfolding read_clock code_of
  clock-unsound s =
      (ap (λ (x : ClockRead). code_of x.answer) met ∙ rw s refl, (ap (λ (x : ClockRead). x.clock) met ∙ rw s refl, ap (λ (x : ClockRead). x.terms) met ∙ rw s refl))

  -- of a sound file whose selected denominator is not 0: 0, the quotient rounded once, and the same in lowest terms
  pub clock-rate : sound f ≡ true → 0 < denominator (denominator_byte f) → (code_of r.answer ≡ 0)
      × ((r.clock ≡ Some (round binary64 false (product (numerator_byte f)) (divisor (denominator_byte f))))
      × (r.terms ≡ lowest (product (numerator_byte f)) (divisor (denominator_byte f))))
  unfolding read_clock dot_clock code_of
  clock-rate s some =
      let there : eqb (denominator (denominator_byte f)) 0 ≡ false = ne_eqb (denominator (denominator_byte f)) 0 (λ e. omega (arith, some, e)) in (
        ap (λ (x : ClockRead). code_of x.answer) met ∙ rw s refl,
        (
          ap (λ (x : ClockRead). x.clock) met ∙ rw (s, there) (ap Some (rounded-once (denominator_byte f) (numerator_byte f) some)),
          ap (λ (x : ClockRead). x.terms) met ∙ rw s (terms-are (denominator_byte f) (numerator_byte f) some),
        ),
      )

  -- of a sound file there is none exactly when the selected denominator is 0
  pub clock-none : sound f ≡ true → r.clock ≡ None → denominator (denominator_byte f) ≡ 0
  unfolding read_clock
  clock-none s e = none_only (denominator_byte f) (numerator_byte f) (rw s at (sym (ap (λ (x : ClockRead). x.clock) met) ∙ e))

  pub clock-none-there : sound f ≡ true → denominator (denominator_byte f) ≡ 0 → (r.clock ≡ None) × (r.terms ≡ no_terms)
  unfolding read_clock
  clock-none-there s e =
      let there = none-there (denominator_byte f) (numerator_byte f) e in
      (ap (λ (x : ClockRead). x.clock) met ∙ rw s there.0, ap (λ (x : ClockRead). x.terms) met ∙ rw s there.1)
