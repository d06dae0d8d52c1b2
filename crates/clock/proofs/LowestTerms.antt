-- Lowest terms: the same quotient, and no common divisor but 1; and there are no others. Assumes nothing.
use Prim.Native.Nat.{ℕ, zero, suc, ◌+◌, ◌*◌, ◌/◌, ◌%◌, ◌≤◌, ◌<◌, ◌∣◌}
use mathlib.Core.Path.{◌≡◌, sym, ap, ap₂, ◌∙◌, subst}
use native.Mathlib.Nat.{mul-one, mul_comm, mul_assoc, mul_right_comm, mul-pos, add-mul, mod-lt, div-add-mod', div-mul_cancel, dvd_refl, dvd-mod_iff, dvd_of_mod-eq-zero, mul-dvd-mul_right, pos_of_dvd_of_pos, eq-one_of_dvd-one, le_of_mul-le-mul_right, eq_of_mul-eq-mul_right}
use native.Mathlib.Omega.{arith}
use borrow.Author.Tests.{ne_eqb, eqb-true, eqb-false}
use lib.Dec.{eqb, lit<}
use lib.Ieee.Nearest.{div_same}
use lib.Ieee.Positive.{first_pos}
use Rattle.bits.proofs.Test.{by-test}
use Rattle.clock.specs.declared.terms.Terms.{Terms}
use Rattle.clock.specs.Lowest.{common_divisor, lowest, no_terms}
use Rattle.clock.proofs.CommonDivisors.{common-positive, common-divides, common-most}

-- both 0
pub default-terms : (t : Terms) → (t.p ≡ 0) × (t.q ≡ 0) → t ≡ no_terms
unfolding no_terms
default-terms t e = ap₂ (λ (x y : ℕ). record { p = x; q = y }) e.0 e.1

-- no number but 1 divides both
abbrev pub Apart : ℕ → ℕ → Type 0
Apart p q = (d : ℕ) → d ∣ p → d ∣ q → d ≡ 1

module _ (a b : ℕ) (some : 0 < b) where
  abbrev Divisor : ℕ
  Divisor = common_divisor a b

  divided : lowest a b ≡ record { p = a / Divisor; q = b / Divisor }
  unfolding lowest
  divided = rw (ne_eqb b 0 (λ e. omega (arith, some, e)))

  over : a / Divisor * Divisor ≡ a
  over = div-mul_cancel Divisor (common-divides a b some).0

  under : b / Divisor * Divisor ≡ b
  under = div-mul_cancel Divisor (common-divides a b some).1

  pub lowest-positive : 0 < (lowest a b).q
  lowest-positive = rw divided (first_pos (b / Divisor) Divisor (rw under some))

  -- p/q is a/b
  pub lowest-same : (lowest a b).p * b ≡ a * (lowest a b).q
  lowest-same =
      rw divided
      (ap (λ (n : ℕ). a / Divisor * n) (sym under ∙ mul_comm (b / Divisor) Divisor)
      ∙ sym (mul_assoc (a / Divisor) Divisor (b / Divisor))
      ∙ ap (λ (n : ℕ). n * (b / Divisor)) over)

  -- in lowest terms
  pub lowest-apart : Apart (lowest a b).p (lowest a b).q
  lowest-apart = rw divided apart
    where
      apart : Apart (a / Divisor) (b / Divisor)
      apart d h k =
          let positive : 0 < d = pos_of_dvd_of_pos k (first_pos (b / Divisor) Divisor (rw under some)) in
          let most : d * Divisor ≤ Divisor = common-most a b some (d * Divisor) (mul-pos positive (common-positive a b some)) (subst (λ (n : ℕ). d * Divisor ∣ n) over (mul-dvd-mul_right d h Divisor)) (subst (λ (n : ℕ). d * Divisor ∣ n) under (mul-dvd-mul_right d k Divisor)) in
          let one : d ≤ 1 = le_of_mul-le-mul_right (omega (arith, most)) (common-positive a b some) in
          omega arith

-- two fractions that are equal
module _ (p q r s : ℕ) (q-some : 0 < q) (s-some : 0 < s) (e : p * s ≡ r * q) where
  -- what their whole parts leave is equal too
  rests : p % q * s ≡ r % s * q
  rests =
      let first : p / q * q * s + p % q * s ≡ p * s = sym (add-mul (p / q * q) (p % q) s) ∙ ap (λ (n : ℕ). n * s) (div-add-mod' p q) in
      let second : r / s * s * q + r % s * q ≡ r * q = sym (add-mul (r / s * s) (r % s) q) ∙ ap (λ (n : ℕ). n * q) (div-add-mod' r s) in
      let same : p / q * q * s ≡ r / s * s * q = ap (λ (n : ℕ). n * q * s) (div_same p q r s q-some s-some e) ∙ mul_right_comm (r / s) q s in
      omega (arith, first, second, same, e)

  rest-too : 0 < p % q → 0 < r % s
  rest-too some = first_pos (r % s) q (subst (λ (n : ℕ). 0 < n) rests (mul-pos some s-some))

  -- nothing is left: both have the denominator 1
  whole-terms : Apart p q → Apart r s → p % q ≡ 0 → (p ≡ r) × (q ≡ s)
  whole-terms one other z =
      let none : r % s * q ≡ 0 * q = sym rests ∙ ap (λ (n : ℕ). n * s) z ∙ omega arith in
      let q-one : q ≡ 1 = one q (dvd_of_mod-eq-zero q z) (dvd_refl q) in
      let s-one : s ≡ 1 = other s (dvd_of_mod-eq-zero s (eq_of_mul-eq-mul_right q q-some (r % s) 0 none)) (dvd_refl s) in
      (sym (mul-one p) ∙ ap (λ (n : ℕ). p * n) (sym s-one) ∙ e ∙ ap (λ (n : ℕ). r * n) q-one ∙ mul-one r, q-one ∙ sym s-one)

-- Equal fractions with no common divisors are the same: their rests, turned over, are such fractions again
same-terms : (fuel p q r s : ℕ) → q ≤ fuel → 0 < q → 0 < s → Apart p q → Apart r s → p * s ≡ r * q → (p ≡ r) × (q ≡ s)
same-terms zero p q r s few q-some s-some one other e = absurd (omega (arith, few, q-some))
same-terms (suc fuel) p q r s few q-some s-some one other e =
    by-test (eqb (p % q) 0) (λ t. whole-terms p q r s q-some s-some e one other (eqb-true (p % q) 0 t))
    (λ t. let some : 0 < p % q = omega (arith, eqb-false (p % q) 0 t) in
    let turned : q * (r % s) ≡ s * (p % q) = mul_comm q (r % s) ∙ sym (rests p q r s q-some s-some e) ∙ mul_comm (p % q) s in
    let rest =
    same-terms fuel q (p % q) s (r % s) (omega (arith, mod-lt p q-some, few)) some (rest-too p q r s q-some s-some e some) (λ d h k. one d ((dvd-mod_iff d h).0 k) h) (λ d h k. other d ((dvd-mod_iff d h).0 k) h) turned in
    (eq_of_mul-eq-mul_right s s-some p r (e ∙ ap (λ (n : ℕ). r * n) rest.0), rest.0))

-- there are no others
pub lowest-unique : (a b p q : ℕ) → 0 < b → 0 < q → Apart p q → p * b ≡ a * q → record { p = p; q = q } ≡ lowest a b
lowest-unique a b p q some q-some apart e =
    let cross : p * (lowest a b).q * b ≡ (lowest a b).p * q * b =
    mul_right_comm p (lowest a b).q b ∙ ap (λ (n : ℕ). n * (lowest a b).q) e ∙ mul_right_comm a q (lowest a b).q ∙ ap (λ (n : ℕ). n * q) (sym (lowest-same a b some)) ∙ mul_right_comm (lowest a b).p b q in
    let same = same-terms q p q (lowest a b).p (lowest a b).q (omega arith) q-some (lowest-positive a b some) apart (lowest-apart a b some) (eq_of_mul-eq-mul_right b some (p * (lowest a b).q) ((lowest a b).p * q) cross) in
    ap₂ (λ (x y : ℕ). record { p = x; q = y }) same.0 same.1

-- so equal quotients have the same lowest terms
pub lowest-equal : (a b c d : ℕ) → 0 < b → 0 < d → a * d ≡ c * b → lowest c d ≡ lowest a b
lowest-equal a b c d b-some d-some e =
    let cross : (lowest c d).p * b * d ≡ a * (lowest c d).q * d =
    mul_right_comm (lowest c d).p b d ∙ ap (λ (n : ℕ). n * b) (lowest-same c d d-some) ∙ mul_right_comm c (lowest c d).q b ∙ ap (λ (n : ℕ). n * (lowest c d).q) (sym e) ∙ mul_right_comm a d (lowest c d).q in
    lowest-unique a b (lowest c d).p (lowest c d).q b-some (lowest-positive c d d-some) (lowest-apart c d d-some) (eq_of_mul-eq-mul_right d d-some ((lowest c d).p * b) (a * (lowest c d).q) cross)

-- 0 is 0/1
pub lowest-zero : (b : ℕ) → 0 < b → lowest 0 b ≡ record { p = 0; q = 1 }
lowest-zero b some = sym (lowest-unique 0 b 0 1 some (lit< tt) (λ d h k. eq-one_of_dvd-one k) (omega arith))
