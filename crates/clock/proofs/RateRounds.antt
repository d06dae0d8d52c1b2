-- The rate: the quotient of the two whole numbers, rounded once, and exact where the division leaves no remainder. `round` is the language's own
-- definition of an f64 nearest to a fraction; `HasValue x s a c` says that x is finite, has the sign s, and is a / c in size. Assumes nothing.
use Prim.Native.Nat.{ℕ, ◌*◌, ◌/◌, ◌%◌, ◌^◌, ◌≤◌, ◌<◌}
use mathlib.Core.Path.{◌≡◌, refl, sym, ap, ◌∙◌, subst}
use mathlib.Core.Bool.{true, false, true≢false}
use native.Mathlib.Nat.{mul-one, mul_comm, mul_assoc, mul-pos, mod-lt, div-le_self, div-mul_cancel, dvd_of_mod-eq-zero}
use native.Mathlib.Omega.{arith}
use borrow.Author.Tests.{eqb-false, eqb-true, ne_eqb}
use lib.Dec.{T, eqb, lit<}
use lib.Ieee.{Float, nan, inf, fin, Format, binary64, up, down, round, div, le, of_int}
use lib.Ieee.Back.{round_whole}
use lib.Ieee.Exact.{HasValue}
use lib.Ieee.Fits.{down_pos}
use lib.Ieee.Order.{round_mono}
use lib.Ieee.Positive.{first_pos}
use lib.Ieee.Scale.{round_same}
use lib.IntN.{pos}
use Rattle.bits.specs.Store.{bits}
use Rattle.bits.proofs.Test.{by-test}
use Rattle.clock.specs.Clock.{denominator, divisor, numerator, post_scaled, product, rate, terms_of}
use Rattle.clock.specs.Lowest.{lowest}
use Rattle.clock.proofs.LowestTerms.{Apart, lowest-apart, lowest-positive, lowest-same}

-- a division of two whole numbers that are not negative
div-at : (f : Format) (x y : Float) (a b : ℕ) → 0 < b → HasValue x false a 1 → HasValue y false b 1 → div f x y ≡ round f false a b
unfolding div
div-at f nan y a b some h k = absurd h
div-at f (inf s) y a b some h k = absurd h
div-at f (fin s m e) nan a b some h k = absurd k
div-at f (fin s m e) (inf t) a b some h k = absurd k
div-at f (fin true m e) (fin t n d) a b some h k = absurd (true≢false h.0)
div-at f (fin false m e) (fin true n d) a b some h k = absurd (true≢false k.0)
div-at f (fin false m e) (fin false n d) a b some h k =
    let under : 0 < n * up d = first_pos (n * up d) 1 (subst (λ (z : ℕ). 0 < z) (sym k.1) (mul-pos some (down_pos d))) in
    let cross : m * up e * down d * b ≡ a * (n * up d * down e) =
    mul_assoc (m * up e) (down d) b ∙ ap (λ (z : ℕ). z * (down d * b)) (sym (mul-one (m * up e)) ∙ h.1)
    ∙ mul_assoc a (down e) (down d * b)
    ∙ ap (λ (z : ℕ). a * z) (mul_comm (down e) (down d * b) ∙ ap (λ (z : ℕ). z * down e) (mul_comm (down d) b ∙ sym k.1 ∙ mul-one (n * up d))) in
    rw (ne_eqb n 0 (λ z. omega (arith, first_pos n (up d) under, z)))
    (round_same f false (m * up e * down d) (n * up d * down e) a b (mul-pos under (down_pos e)) some cross)

-- a whole number up to 2^53 is an f64
whole-value : (n : ℕ) → n ≤ 2 ^ 53 → HasValue (of_int binary64 (pos n)) false n 1
unfolding of_int
whole-value n h = round_whole binary64 false n h

of-whole : (n : ℕ) → of_int binary64 (pos n) ≡ round binary64 false n 1
unfolding of_int
of-whole n = refl

-- the two whole numbers: the product is at most 14,318,180 times 127, the divisor at most 254
pub product-most : (n : ℕ) → product n ≤ 1818408860
unfolding product numerator bits
product-most n = omega (arith, mod-lt (n / 2 ^ 0) {m = 2 ^ 7} (lit< tt))

denominator-most : (d : ℕ) → denominator d ≤ 127
unfolding denominator bits
denominator-most d = omega (arith, mod-lt (d / 2 ^ 1) {m = 2 ^ 7} (lit< tt))

pub divisor-most : (d : ℕ) → divisor d ≤ 254
unfolding divisor
divisor-most d =
    by-test (post_scaled d) (λ e. rw e (omega (arith, denominator-most d))) (λ e. rw e (omega (arith, denominator-most d)))

-- both are cast without loss
pub product_whole : (n : ℕ) → HasValue (of_int binary64 (pos (product n))) false (product n) 1
product_whole n = whole-value (product n) (omega (arith, product-most n))

pub divisor-whole : (d : ℕ) → HasValue (of_int binary64 (pos (divisor d))) false (divisor d) 1
divisor-whole d = whole-value (divisor d) (omega (arith, divisor-most d))

pub divisor-positive : (d : ℕ) → 0 < denominator d → 0 < divisor d
unfolding divisor
divisor-positive d some = by-test (post_scaled d) (λ e. rw e (omega (arith, some))) (λ e. rw e some)

module _ (d n : ℕ) (some : 0 < denominator d) where
  -- 02, 12/13: 'one f64 division, rounded once': the f64 nearest to the whole product divided by the denominator or twice it
  pub rounded-once : rate d n ≡ round binary64 false (product n) (divisor d)
  unfolding rate
  rounded-once =
      div-at binary64 (of_int binary64 (pos (product n))) (of_int binary64 (pos (divisor d))) (product n) (divisor d) (divisor-positive d some)
      (product_whole n) (divisor-whole d)

  -- 'exact where the division leaves no remainder': the whole quotient's own f64, which has that value
  pub rate-exact : product n % divisor d ≡ 0
      → (rate d n ≡ of_int binary64 (pos (product n / divisor d))) × HasValue (rate d n) false (product n / divisor d) 1
  rate-exact none =
      let quotient = product n / divisor d in
      let exact : rate d n ≡ of_int binary64 (pos quotient) =
      rounded-once ∙ round_same binary64 false (product n) (divisor d) quotient 1 (divisor-positive d some) (lit< tt) (mul-one (product n) ∙ sym (div-mul_cancel (divisor d) (dvd_of_mod-eq-zero (divisor d) none))) ∙ sym (of-whole quotient) in
      (exact, subst (λ (x : Float). HasValue x false quotient 1) (sym exact) (whole-value quotient (omega (arith, product-most n, div-le_self (product n) (divisor d)))))

  pub terms-are : terms_of d n ≡ lowest (product n) (divisor d)
  unfolding terms_of
  terms-are = rw (ne_eqb (denominator d) 0 (λ e. omega (arith, some, e)))

  pub terms-positive : 0 < (terms_of d n).q
  terms-positive = rw terms-are (lowest-positive (product n) (divisor d) (divisor-positive d some))

  -- 'the two whole numbers in lowest terms': p/q is the product divided by the divisor, and no number but 1 divides both
  pub terms-same : (terms_of d n).p * divisor d ≡ product n * (terms_of d n).q
  terms-same = rw terms-are (lowest-same (product n) (divisor d) (divisor-positive d some))

  pub terms-apart : Apart (terms_of d n).p (terms_of d n).q
  terms-apart = rw terms-are (lowest-apart (product n) (divisor d) (divisor-positive d some))

  -- the rate is that of the lowest terms
  pub rate-of-terms : rate d n ≡ round binary64 false (terms_of d n).p (terms_of d n).q
  rate-of-terms =
      rounded-once ∙ round_same binary64 false (product n) (divisor d) (terms_of d n).p (terms_of d n).q (divisor-positive d some) terms-positive
      (sym terms-same)

-- the divisor is 0 where the denominator is, and `lowest` has no terms there
pub terms-lowest : (d n : ℕ) → lowest (product n) (divisor d) ≡ terms_of d n
unfolding terms_of divisor lowest
terms-lowest d n =
    by-test (eqb (denominator d) 0)
    (λ t. let none : denominator d ≡ 0 = eqb-true (denominator d) 0 t in
    by-test (post_scaled d) (λ e. rw (e, none) refl) (λ e. rw (e, none) refl))
    (λ t. sym (terms-are d n (omega (arith, eqb-false (denominator d) 0 t))))

-- and in their order: a rate that is no larger in whole numbers is no larger as an f64
pub rates-ordered : (d n d' n' : ℕ) → 0 < denominator d → 0 < denominator d' → (terms_of d n).p * (terms_of d' n').q ≤ (terms_of d' n').p * (terms_of d n).q
    → T (le (rate d n) (rate d' n'))
rates-ordered d n d' n' some some' h =
    rw (rate-of-terms d n some, rate-of-terms d' n' some')
    (round_mono binary64 (terms_of d n).p (terms_of d n).q (terms_of d' n').p (terms_of d' n').q (terms-positive d n some) (terms-positive d' n' some') h)
