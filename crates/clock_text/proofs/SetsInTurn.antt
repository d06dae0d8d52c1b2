-- The sets of an input, one after the other. Assumes nothing.
use Rattle.std.specs.Prelude.{Some, None, Ok}
use Prim.Native.Nat.{ℕ, ◌+◌, ◌/◌, ◌%◌, ◌^◌, ◌<◌, min}
use mathlib.Core.Bool.{true, false, cond}
use mathlib.Core.List.{List, [], ◌∷◌, ◌++◌}
use mathlib.Core.Path.{◌≡◌, refl, sym, ap, ◌∙◌}
use native.Mathlib.Omega.{arith}
use borrow.Author.Tests.{eqb-true, eqb-false, eq-eqb, ne_eqb}
use lib.Dec.{eqb}
use lib.ListN.{length, get_or}
use Rattle.bits.specs.Store.{bit}
use Rattle.bits.proofs.Test.{by-test}
use Rattle.clock.specs.declared.terms.Terms.{Terms}
use Rattle.clock.specs.Clock.{denominator, terms_of}
use Rattle.clock.specs.Lowest.{no_terms}
use Rattle.clock.proofs.ClockHandsBack.{none-there}
use Rattle.clock.proofs.RateRounds.{terms-positive}
use Rattle.clock_text.specs.Sets.{set_clock, set_clocks, set_count, set_of}

-- the next three bytes are a set, and fewer are the last
pub chunk_set : (set rest : List ℕ) → length set ≡ min 3 (length set + length rest) → 0 < length set → set_clocks (set ++ rest) ≡ set_of set ∷ set_clocks rest
unfolding set_clocks set_of
chunk_set [] rest few some = absurd (omega (arith, some))
chunk_set (d ∷ []) [] few some = refl
chunk_set (d ∷ []) (b ∷ rest) few some = absurd (omega (arith, few))
chunk_set (d ∷ n ∷ []) [] few some = refl
chunk_set (d ∷ n ∷ []) (b ∷ rest) few some = absurd (omega (arith, few))
chunk_set (d ∷ n ∷ z ∷ []) rest few some = refl
chunk_set (d ∷ n ∷ z ∷ b ∷ set) rest few some = absurd (omega (arith, few))

-- one more than those of the rest
pub chunk_count : (set rest : List ℕ) → length set ≡ min 3 (length set + length rest) → 0 < length set → set_count (set ++ rest) ≡ set_count rest + 1
unfolding set_count
chunk_count [] rest few some = absurd (omega (arith, some))
chunk_count (d ∷ []) [] few some = refl
chunk_count (d ∷ []) (b ∷ rest) few some = absurd (omega (arith, few))
chunk_count (d ∷ n ∷ []) [] few some = refl
chunk_count (d ∷ n ∷ []) (b ∷ rest) few some = absurd (omega (arith, few))
chunk_count (d ∷ n ∷ z ∷ []) rest few some = omega arith
chunk_count (d ∷ n ∷ z ∷ b ∷ set) rest few some = absurd (omega (arith, few))

-- where the two whole numbers are 0 there is no rate, and only there
module _ (d n : ℕ) where
  pub no-rate : (terms_of d n).q ≡ 0 → eqb (denominator d) 0 ≡ true
  no-rate e =
      by-test (eqb (denominator d) 0) (λ t. t)
      (λ t. absurd (omega (arith, terms-positive d n (omega (arith, eqb-false (denominator d) 0 t)), e)))

  pub some-rate : ((terms_of d n).q ≡ 0 → ⊥) → eqb (denominator d) 0 ≡ false
  unfolding no_terms
  some-rate h =
      by-test (eqb (denominator d) 0)
      (λ t. absurd (h (ap (λ (x : Terms). x.q) (none-there d n (eqb-true (denominator d) 0 t)).1)))
      (λ t. t)

-- three bytes of which the second is below 128 and the third 0
three-read : (set : List ℕ) → length set ≡ 3 → get_or set 1 0 < 128 → get_or set 2 0 ≡ 0
    → set_of set ≡ cond (eqb (denominator (get_or set 0 0)) 0) (Ok None) (Ok (Some (terms_of (get_or set 0 0) (get_or set 1 0))))
unfolding set_of set_clock bit
three-read [] e l z = absurd (omega (arith, e))
three-read (d ∷ []) e l z = absurd (omega (arith, e))
three-read (d ∷ n ∷ []) e l z = absurd (omega (arith, e))
three-read (d ∷ n ∷ y ∷ []) e l z = rw (ne_eqb (n / 2 ^ 7 % 2) 1 (λ h. omega (arith, h, l)), eq-eqb y 0 z) refl
three-read (d ∷ n ∷ y ∷ x ∷ rest) e l z = absurd (omega (arith, e))

-- and the two whole numbers of the others
module _ (set : List ℕ) (three : length set ≡ 3) (low : get_or set 1 0 < 128) (zeroed : get_or set 2 0 ≡ 0) where
  module _ (t : Terms) (d n : ℕ) (e : t ≡ terms_of d n) (h : d ≡ get_or set 0 0) (k : n ≡ get_or set 1 0) where
    same : t ≡ terms_of (get_or set 0 0) (get_or set 1 0)
    same = rw (h, k) at e

    pub set-none : t.q ≡ 0 → Ok None ≡ set_of set
    set-none z = sym (three-read set three low zeroed ∙ rw (no-rate (get_or set 0 0) (get_or set 1 0) (ap (λ (x : Terms). x.q) (sym same) ∙ z)) refl)

    pub set-rate : (t.q ≡ 0 → ⊥) → Ok (Some t) ≡ set_of set
    set-rate z =
        sym (three-read set three low zeroed ∙ rw (some-rate (get_or set 0 0) (get_or set 1 0) (λ o. z (ap (λ (x : Terms). x.q) same ∙ o)), sym same) refl)
