-- Kinds of record by space and direction, and the tests that go by them. Assumes nothing.
use Prim.Native.Nat.{ℕ, ◌+◌, ◌*◌, ◌-◌, ◌/◌, ◌%◌}
use mathlib.Core.Path.{◌≡◌, refl}
use mathlib.Core.Bool.{Bool, true, false, cond, not, ◌&&◌, ◌||◌}
use native.Mathlib.Omega.{arith}
use borrow.Author.Tests.{eqb-true, eqb-false, ltb-true, ltb-false, eq-eqb, ne_eqb, lt-ltb, le-ltb}
use lib.Dec.{eqb, ltb}
use Rattle.bits.proofs.Test.{by-test, and-true, and-false}
use Rattle.places.specs.Lookup.{other_way}

-- two tests of numbers that say the same are one
same_test : (a b c d : ℕ) → (a ≡ b → c ≡ d) → (c ≡ d → a ≡ b) → eqb a b ≡ eqb c d
same_test a b c d there back =
    by-test (eqb c d) (λ e. rw e (eq-eqb a b (back (eqb-true c d e)))) (λ e. rw e (ne_eqb a b (λ h. eqb-false c d e (there h))))

-- a kind that reads is its space's first, and one that writes the second
module _ (kind s : ℕ) where
  module _ (even : eqb (kind % 2) 0 ≡ true) where
    pub read_first : eqb kind (2 * s) ≡ eqb (kind / 2) s
    read_first = same_test kind (2 * s) (kind / 2) s (λ h. omega (arith, h)) (λ h. omega (arith, h, eqb-true (kind % 2) 0 even))

    pub read-not-second : eqb kind (2 * s + 1) ≡ false
    read-not-second = ne_eqb kind (2 * s + 1) (λ h. omega (arith, h, eqb-true (kind % 2) 0 even))

  module _ (odd : eqb (kind % 2) 0 ≡ false) where
    pub write-second : eqb kind (2 * s + 1) ≡ eqb (kind / 2) s
    write-second = same_test kind (2 * s + 1) (kind / 2) s (λ h. omega (arith, h)) (λ h. omega (arith, h, eqb-false (kind % 2) 0 odd))

    pub write-not-first : eqb kind (2 * s) ≡ false
    write-not-first = ne_eqb kind (2 * s) (λ h. eqb-false (kind % 2) 0 odd (omega (arith, h)))

-- both are of the space
pub first-space : (s : ℕ) → 2 * s / 2 ≡ s
first-space s = omega arith

pub second-space : (s : ℕ) → (2 * s + 1) / 2 ≡ s
second-space s = omega arith

-- the other way is of the same space, and of the other direction
module _ (kind : ℕ) where
  pub other-space : other_way kind / 2 ≡ kind / 2
  unfolding other_way
  other-space =
      by-test (eqb (kind % 2) 0) (λ e. rw e (omega (arith, eqb-true (kind % 2) 0 e))) (λ e. rw e (omega (arith, eqb-false (kind % 2) 0 e)))

  pub other-direction : eqb (other_way kind % 2) 0 ≡ not (eqb (kind % 2) 0)
  unfolding other_way
  other-direction =
      by-test (eqb (kind % 2) 0)
      (λ e. rw e (ne_eqb ((kind + 1) % 2) 0 (λ h. omega (arith, h, eqb-true (kind % 2) 0 e))))
      (λ e. rw e (eq-eqb ((kind - 1) % 2) 0 (omega (arith, eqb-false (kind % 2) 0 e))))

-- an address one byte above another
pub one-above : (address below : ℕ) → eqb address (below + 1) ≡ (not (eqb address 0) && eqb (address - 1) below)
one-above address below =
    by-test (eqb address 0)
    (λ e. rw e (ne_eqb address (below + 1) (λ h. omega (arith, h, eqb-true address 0 e))))
    (λ e. rw e (same_test address (below + 1) (address - 1) below (λ h. omega (arith, h)) (λ h. omega (arith, h, eqb-false address 0 e))))

-- more than one byte is two or more
pub two-or-more : (width : ℕ) → ltb 1 width ≡ not (ltb width 2)
two-or-more width =
    by-test (ltb width 2)
    (λ e. rw e (le-ltb 1 width (omega (arith, ltb-true width 2 e))))
    (λ e. rw e (lt-ltb 1 width (omega (arith, ltb-false width 2 e))))

-- ---- tests in another order

pub reordered : (d a k : Bool) → (d && (a && k)) ≡ (a && (k && d))
reordered true true true = refl
reordered true true false = refl
reordered true false k = refl
reordered false true true = refl
reordered false true false = refl
reordered false false k = refl

-- a choice by them: what is chosen where all pass
pub picked : {A : Type 0} (d k a s : Bool) (x y z : A) → (k ≡ true → x ≡ y) → cond (d && (k && a && s)) x z ≡ cond ((a && (k && d)) && s) y z
picked true true true true x y z h = h refl
picked true true true false x y z h = refl
picked true true false s x y z h = refl
picked true false true s x y z h = refl
picked true false false s x y z h = refl
picked false true true s x y z h = refl
picked false false true s x y z h = refl
picked false k false s x y z h = refl

-- and in either direction
pub either_way : (r w n b k l : Bool)
    → (r && ((n && b) && (k && l)) || w && ((n && b) && (k && l))) ≡ (l && (n && ((b && (k && r)) || (b && (k && w)))))
either_way r w true true true true = simp and-true
either_way r w n b k false = simp and-false
either_way r w n b false true = simp and-false
either_way r w n false true true = simp and-false
either_way r w false true true true = simp and-false

pub or-swapped : (a b : Bool) → (a || b) ≡ (b || a)
or-swapped true true = refl
or-swapped true false = refl
or-swapped false true = refl
or-swapped false false = refl
