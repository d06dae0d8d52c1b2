-- The digits of a number, stored from the back. Assumes nothing.
use Prim.Native.Nat.{ℕ, zero, suc, ◌+◌, ◌-◌, ◌*◌, ◌/◌, ◌%◌, ◌<◌}
use mathlib.Core.Path.{◌≡◌, refl, sym, ◌∙◌}
use mathlib.Core.List.{List}
use native.Mathlib.Nat.{mod-lt, div-div-eq-div-mul}
use native.Mathlib.Omega.{arith}
use borrow.Author.Tests.{lt-ltb}
use lib.Arith.{digits_div, digits_mod, mod-mul}
use lib.Dec.{lit<}
use lib.ListN.{length, set, length-append}
use lib.Seq.{sets}
use Rattle.io.specs.Digits.{last_digits}
use Rattle.text.proofs.Stores.{sets_last}

pub digits-length : (k n : ℕ) → length (last_digits 10 k n) ≡ k
digits-length zero n = refl
digits-length (suc k) n = rw length-append (omega (arith, digits-length k (n / 10)))

-- the last digit stored, its tenth's digits are left
spell-digit : (l : List ℕ) (at i n : ℕ) → 0 < i
    → sets (set l (at + (i - 1)) (48 + n % 10)) at (last_digits 10 (i - 1) (n / 10)) ≡ sets l at (last_digits 10 i n)
spell-digit l at zero n h = absurd (omega arith)
spell-digit l at (suc k) n h =
    let less : suc k - 1 ≡ k = omega arith in
    rw (less, lt-ltb (n % 10) 10 (mod-lt n (lit< tt)))
    (sym (sets_last l at (last_digits 10 k (n / 10)) (48 + n % 10) ∙ rw digits-length))

-- two digits stored, the hundredth's are left
pub spell-pair : (l : List ℕ) (at i n : ℕ) → 1 < i
    → sets (set (set l (at + (i - 1)) (48 + n % 100 % 10)) (at + (i - 2)) (48 + n % 100 / 10)) at (last_digits 10 (i - 2) (n / 100))
    ≡ sets l at (last_digits 10 i n)
spell-pair l at i n h =
    let pair : n % 100 ≡ n / 10 % 10 * 10 + n % 10 = mod-mul n {m = 10} {c = 10} (lit< tt) (lit< tt) in
    let low : n % 100 % 10 ≡ n % 10 = rw pair (digits_mod (n / 10 % 10) (mod-lt n (lit< tt))) in
    let high : n % 100 / 10 ≡ n / 10 % 10 = rw pair (digits_div (n / 10 % 10) (mod-lt n (lit< tt))) in
    let rest : n / 100 ≡ n / 10 / 10 = sym (div-div-eq-div-mul n 10 10) in
    let less : i - 2 ≡ i - 1 - 1 = omega arith in
    rw (low, high, rest, less)
    (spell-digit (set l (at + (i - 1)) (48 + n % 10)) at (i - 1) (n / 10) (omega arith) ∙ spell-digit l at i n (omega arith))

-- one digit, and none is left
pub spell_one : (l : List ℕ) (at n : ℕ) → set l at (48 + n % 10) ≡ sets l at (last_digits 10 1 n)
spell_one l at n = rw (lt-ltb (n % 10) 10 (mod-lt n (lit< tt)))
