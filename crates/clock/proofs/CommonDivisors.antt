-- The greatest common divisor, as it is defined and as Euclid finds it. Assumes nothing.
use Prim.Native.Nat.{ℕ, zero, suc, ◌+◌, ◌%◌, ◌≤◌, ◌<◌, ◌∣◌}
use mathlib.Core.Path.{◌≡◌, sym, ◌∙◌}
use mathlib.Core.Bool.{true, true≢false}
use native.Mathlib.Nat.{le_antisymm, le_of_dvd, one-dvd, dvd_refl, dvd-zero, dvd-mod_iff, dvd_of_mod-eq-zero, mod-eq-zero_of_dvd}
use native.Mathlib.Omega.{arith}
use borrow.Author.Tests.{eqb-true, eqb-false}
use lib.Dec.{eqb, lit<}
use Rattle.bits.proofs.Test.{by-test, left, right, passes, is_true}
use Rattle.clock.specs.Lowest.{divides_both, largest_divisor, common_divisor}

module _ (d a b : ℕ) where
  -- the test, and what it says
  divides : divides_both d a b ≡ true → (d ∣ a) × (d ∣ b)
  unfolding divides_both
  divides e =
      let t = passes (divides_both d a b) e in (
        dvd_of_mod-eq-zero d (eqb-true (a % d) 0 (is_true _ (left (eqb (a % d) 0) (eqb (b % d) 0) t))),
        dvd_of_mod-eq-zero d (eqb-true (b % d) 0 (is_true _ (right (eqb (a % d) 0) (eqb (b % d) 0) t))),
      )

  divided : d ∣ a → d ∣ b → divides_both d a b ≡ true
  unfolding divides_both
  divided h k = rw (mod-eq-zero_of_dvd d h, mod-eq-zero_of_dvd d k)

-- no common divisor up to k is larger
most : (k a b d : ℕ) → 0 < d → d ≤ k → d ∣ a → d ∣ b → d ≤ largest_divisor k a b
unfolding largest_divisor
most zero a b d pos low h j = absurd (omega arith)
most (suc k) a b d pos low h j =
    by-test (divides_both (suc k) a b)
    (λ e. rw (e, largest_divisor) low)
    (λ e. rw (e, largest_divisor)
    (by-test (eqb d (suc k))
    (λ s. absurd (true≢false (sym (divided (suc k) a b (rw (eqb-true d (suc k) s) at h) (rw (eqb-true d (suc k) s) at j)) ∙ e)))
    (λ s. most k a b d pos (omega (arith, eqb-false d (suc k) s)) h j)))

-- and one that there is divides both
largest-divides : (k a b : ℕ) → 0 < largest_divisor k a b → (largest_divisor k a b ∣ a) × (largest_divisor k a b ∣ b)
unfolding largest_divisor
largest-divides zero a b some = absurd (omega arith)
largest-divides (suc k) a b some =
    by-test (divides_both (suc k) a b)
    (λ e. rw (e, largest_divisor) (divides (suc k) a b e))
    (λ e. rw (e, largest_divisor) (largest-divides k a b (rw (e, largest_divisor) at some)))

module _ (a b : ℕ) (some : 0 < b) where
  pub common-positive : 0 < common_divisor a b
  unfolding common_divisor
  common-positive = most b a b 1 (lit< tt) some (one-dvd a) (one-dvd b)

  pub common-divides : (common_divisor a b ∣ a) × (common_divisor a b ∣ b)
  unfolding common_divisor
  common-divides = largest-divides b a b common-positive

  pub common-most : (d : ℕ) → 0 < d → d ∣ a → d ∣ b → d ≤ common_divisor a b
  unfolding common_divisor
  common-most d pos h j = most b a b d pos (le_of_dvd some j) h j

-- two numbers with the same common divisors as two others
pub record Alike (a b x y : ℕ) : Type 0 where
  pub down : (d : ℕ) → d ∣ a → d ∣ b → (d ∣ x) × (d ∣ y)
  pub up : (d : ℕ) → d ∣ x → d ∣ y → (d ∣ a) × (d ∣ b)
  pub some : 0 < x + y

pub alike-first : (a b : ℕ) → 0 < b → Alike a b a b
alike-first a b h = record { down = λ d p q. (p, q); up = λ d p q. (p, q); some = omega arith }

-- Euclid's step: the second, and what it leaves of the first
pub alike_next : (a b x y : ℕ) → 0 < y → Alike a b x y → Alike a b y (x % y)
alike_next a b x y h l =
    record {
      down = λ d p q. ((l.down d p q).1, (dvd-mod_iff d (l.down d p q).1).1 (l.down d p q).0);
      up = λ d p q. l.up d ((dvd-mod_iff d p).0 q) p;
      some = omega arith;
    }

-- where nothing is left, the first is the greatest
pub alike-last : (a b x : ℕ) → 0 < b → Alike a b x 0 → x ≡ common_divisor a b
alike-last a b x h l =
    let pos : 0 < x = omega (arith, l.some) in
    let both = l.up x (dvd_refl x) (dvd-zero x) in
    let g = common-divides a b h in
    le_antisymm (common-most a b h x pos both.0 both.1) (le_of_dvd pos (l.down (common_divisor a b) g.0 g.1).0)
