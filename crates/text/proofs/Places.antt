-- How many decimal digits a number has: the bound on how far it is looked at plays no part. Assumes nothing.
use Prim.Native.Nat.{ℕ, zero, suc, ◌*◌, ◌/◌, ◌^◌, ◌≤◌, ◌<◌, suc-le-suc}
use mathlib.Core.Path.{◌≡◌, refl, sym, ap, ◌∙◌}
use native.Mathlib.Nat.{pow-suc, one-le-pow, div-lt_iff_lt-mul, le-div_iff_mul-le}
use native.Mathlib.Omega.{arith}
use borrow.Author.Tests.{lt-ltb, le-ltb, ltb-true, ltb-false}
use lib.Dec.{ltb, lit<}
use Rattle.bits.proofs.Test.{by-test}
use Rattle.text.specs.Text.{decimal_places}

-- a number below 10 has one
pub one_place : (bound n : ℕ) → n < 10 → decimal_places bound n ≡ 1
unfolding decimal_places
one_place zero n h = refl
one_place (suc bound) n h = rw (lt-ltb n 10 h, decimal_places)

-- any other has one more than its tenth
tenth : (bound n : ℕ) → 10 ≤ n → decimal_places (suc bound) n ≡ suc (decimal_places bound (n / 10))
unfolding decimal_places
tenth bound n h = rw (le-ltb n 10 h, decimal_places)

enough : (a b n : ℕ) → n ≤ a → n ≤ b → decimal_places a n ≡ decimal_places b n
enough zero b n ha hb = one_place zero n (omega arith) ∙ sym (one_place b n (omega arith))
enough (suc a) zero n ha hb = one_place (suc a) n (omega arith) ∙ sym (one_place zero n (omega arith))
enough (suc a) (suc b) n ha hb =
    by-test (ltb n 10)
    (λ e. one_place (suc a) n (ltb-true n 10 e) ∙ sym (one_place (suc b) n (ltb-true n 10 e)))
    (λ e. let h : 10 ≤ n = ltb-false n 10 e in
    tenth a n h ∙ ap suc (enough a b (n / 10) (omega arith) (omega arith)) ∙ sym (tenth b n h))

pub more-places : (n : ℕ) → 10 ≤ n → decimal_places n n ≡ suc (decimal_places (n / 10) (n / 10))
more-places n h =
    enough n (suc n) n (omega arith) (omega arith)
    ∙ tenth n n h
    ∙ ap suc (enough n (n / 10) (n / 10) (omega arith) (omega arith))

-- a number below 10^j has at most j
pub most-places : (j bound n : ℕ) → n < 10 ^ suc j → decimal_places bound n ≤ suc j
unfolding decimal_places
most-places j zero n h = omega arith
most-places zero (suc bound) n h = rw (one_place (suc bound) n h) (omega arith)
most-places (suc j) (suc bound) n h =
    by-test (ltb n 10) (λ e. rw (one_place (suc bound) n (ltb-true n 10 e)) (omega arith))
    (λ e. rw (tenth bound n (ltb-false n 10 e))
    (suc-le-suc (most-places j bound (n / 10) ((div-lt_iff_lt-mul (lit< tt)).1 (rw (pow-suc 10 (suc j)) at h)))))

-- a number from 10^j on has more than j
least-places : (j n : ℕ) → 10 ^ j ≤ n → j < decimal_places n n
least-places zero n h =
    by-test (ltb n 10) (λ e. rw (one_place n n (ltb-true n 10 e)) (omega arith))
    (λ e. rw (more-places n (ltb-false n 10 e)) (omega arith))
least-places (suc j) n h =
    let tens : 10 ^ j * 10 ≤ n = rw (pow-suc 10 j) at h in
    rw (more-places n (omega (arith, one-le-pow j 10 (lit< tt))))
    (suc-le-suc (least-places j (n / 10) ((le-div_iff_mul-le (lit< tt)).1 tens)))

-- between the two it has as many
pub so-many : (j n : ℕ) → 10 ^ j ≤ n → n < 10 ^ suc j → suc j ≡ decimal_places n n
so-many j n low high = omega (arith, least-places j n low, most-places j n n high)
