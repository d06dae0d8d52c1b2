-- A number's decimal text is a number of 02's form, and spells it. Assumes nothing.
use Prim.Native.Nat.{ℕ, zero, suc, ◌+◌, ◌-◌, ◌*◌, ◌/◌, ◌%◌, ◌^◌, ◌≤◌, ◌<◌}
use mathlib.Core.Bool.{Bool, true, not, ◌&&◌, ◌||◌}
use mathlib.Core.List.{List, [], ◌∷◌, ◌++◌}
use mathlib.Core.Path.{◌≡◌, sym, ap, ◌∙◌, subst}
use native.Mathlib.Nat.{pow-suc, div-div-eq-div-mul, mul_comm, div-lt_iff_lt-mul, le-div_iff_mul-le, one-le-pow, mul_assoc, zero-mul}
use native.Mathlib.Omega.{arith}
use borrow.Author.Tests.{lt-ltb, ltb-true, ltb-false, ne_eqb}
use lib.Dec.{T, eqb, leb, ltb, le→leb}
use lib.ListN.{length}
use Rattle.io.specs.Digits.{last_digits, hex_digit_ascii}
use Rattle.bits.proofs.Test.{by-test, left, right, both, second}
use Rattle.text.proofs.Places.{one_place, so-many}
use Rattle.text.proofs.Spelled.{digits-length}
use Rattle.text.specs.Text.{decimal, decimal_places}
use Rattle.modes.proofs.Tokens.{value-append}
use Rattle.modes.specs.Form.{every, digit, numeral, value_from, value_of}

pub glyph-is : (d : ℕ) → d < 10 → hex_digit_ascii d ≡ 48 + d
glyph-is d h = rw (lt-ltb d 10 h)

pub last-digit : (n : ℕ) → hex_digit_ascii (n % 10) ≡ 48 + n % 10
last-digit n = glyph-is (n % 10) (omega arith)

-- digits spell the number behind what was spelled before them
pub digits_from : (v k n : ℕ) → n < 10 ^ k → value_from v (last_digits 10 k n) ≡ v * 10 ^ k + n
unfolding value_from
digits_from v zero n h = omega (arith, h)
digits_from v (suc k) n h =
    let less : n / 10 < 10 ^ k = let g : n < 10 ^ k * 10 = subst (λ (x : ℕ). n < x) (pow-suc 10 k) h in omega (arith, g) in
    value-append v (last_digits 10 k (n / 10)) (hex_digit_ascii (n % 10) ∷ [])
    ∙ ap (λ (w : ℕ). 10 * w + (hex_digit_ascii (n % 10) - 0x30)) (digits_from v k (n / 10) less)
    ∙ ap (λ (g : ℕ). 10 * (v * 10 ^ k + n / 10) + (g - 0x30)) (last-digit n)
    ∙ (let z : 10 * (v * 10 ^ k + n / 10) + (48 + n % 10 - 0x30) ≡ v * 10 ^ k * 10 + n = omega arith in z)
    ∙ ap (λ (x : ℕ). x + n) (mul_assoc v (10 ^ k) 10 ∙ ap (λ (x : ℕ). v * x) (sym (pow-suc 10 k)))

-- digits spell the number
pub digits_value : (k n : ℕ) → n < 10 ^ k → value_of (last_digits 10 k n) ≡ n
unfolding value_of
digits_value k n h = digits_from 0 k n h ∙ (let z : 0 * 10 ^ k + n ≡ n = ap (λ (x : ℕ). x + n) (zero-mul (10 ^ k)) ∙ omega arith in z)

pub every_append : (test : ℕ → Bool) (a b : List ℕ) → T (every test a) → T (every test b) → T (every test (a ++ b))
unfolding every
every_append test [] b s t = t
every_append test (x ∷ a) b s t = both (test x) (every test (a ++ b)) (left (test x) (every test a) s) (every_append test a b (right (test x) (every test a) s) t)

-- and are digits
pub all_digits : (k n : ℕ) → T (every digit (last_digits 10 k n))
unfolding every digit
all_digits zero n = tt
all_digits (suc k) n =
    every_append digit (last_digits 10 k (n / 10)) (hex_digit_ascii (n % 10) ∷ []) (all_digits k (n / 10))
    (subst (λ (g : ℕ). T ((leb 0x30 g && leb g 0x39) && true)) (sym (last-digit n))
    (both (leb 0x30 (48 + n % 10) && leb (48 + n % 10) 0x39) true
    (both (leb 0x30 (48 + n % 10)) (leb (48 + n % 10) 0x39) (le→leb 0x30 (48 + n % 10) (omega arith)) (le→leb (48 + n % 10) 0x39 (omega arith))) tt))

-- the first of them, and those behind it
front : (k n : ℕ) → last_digits 10 (suc k) n ≡ (48 + n / 10 ^ k % 10) ∷ last_digits 10 k n
front zero n = ap (λ (g : ℕ). g ∷ []) (last-digit n ∙ omega arith)
front (suc k) n =
    ap (λ (l : List ℕ). l ++ hex_digit_ascii (n % 10) ∷ []) (front k (n / 10))
    ∙ ap (λ (x : ℕ). (48 + x % 10) ∷ (last_digits 10 k (n / 10) ++ hex_digit_ascii (n % 10) ∷ []))
    (div-div-eq-div-mul n 10 (10 ^ k) ∙ ap (λ (x : ℕ). n / x) (mul_comm 10 (10 ^ k) ∙ sym (pow-suc 10 k)))

numeral-by : (k n : ℕ) → T (not (eqb (48 + n / 10 ^ k % 10) 0x30) || eqb (length (last_digits 10 k n)) 0) → T (numeral (last_digits 10 (suc k) n))
unfolding numeral every
numeral-by k n t =
    subst (λ (l : List ℕ). T (numeral l)) (sym (front k n))
    (both (digit (48 + n / 10 ^ k % 10) && every digit (last_digits 10 k n)) (not (eqb (48 + n / 10 ^ k % 10) 0x30) || eqb (length (last_digits 10 k n)) 0)
    (subst (λ (l : List ℕ). T (every digit l)) (front k n) (all_digits (suc k) n)) t)

-- one digit
one-numeral : (n : ℕ) → T (numeral (last_digits 10 1 n))
one-numeral n = numeral-by 0 n (second (not (eqb (48 + n / 10 ^ 0 % 10) 0x30)) true tt)

-- more, where the first is not 0
more-numeral : (k n : ℕ) → 10 ^ k ≤ n → n < 10 ^ suc k → T (numeral (last_digits 10 (suc k) n))
more-numeral k n lo hi =
    let some : 1 ≤ n / 10 ^ k = (le-div_iff_mul-le {k = 10 ^ k} {x = 1} {y = n} (one-le-pow k 10 (omega arith))).1 (omega (arith, lo)) in
    let few : n / 10 ^ k < 10 =
    (div-lt_iff_lt-mul {k = 10 ^ k} {x = n} {y = 10} (one-le-pow k 10 (omega arith))).1
    (let g : n < 10 ^ k * 10 = subst (λ (x : ℕ). n < x) (pow-suc 10 k) hi in omega (arith, g)) in
    numeral-by k n (rw (ne_eqb (48 + n / 10 ^ k % 10) 0x30 (λ e. omega (arith, e, some, few))) tt)

-- a number below 100000 as text
pub record Spells (n : ℕ) : Type 0 where
  pub numbered : T (numeral (decimal n))
  pub short : length (decimal n) ≤ 5
  pub value : value_of (decimal n) ≡ n

spells-by : (k n : ℕ) → k ≤ 4 → decimal_places n n ≡ suc k → T (numeral (last_digits 10 (suc k) n)) → n < 10 ^ suc k → Spells n
unfolding decimal
spells-by k n h e t l =
    record {
      numbered = subst (λ (p : ℕ). T (numeral (last_digits 10 p n))) (sym e) t;
      short = omega (arith, digits-length (decimal_places n n) n, e);
      value = ap (λ (p : ℕ). value_of (last_digits 10 p n)) e ∙ digits_value (suc k) n l;
    }

spells-many : (k n : ℕ) → k ≤ 4 → 10 ^ k ≤ n → n < 10 ^ suc k → Spells n
spells-many k n h lo hi = spells-by k n h (sym (so-many k n lo hi)) (more-numeral k n lo hi) hi

pub spells : (n : ℕ) → n < 100000 → Spells n
spells n h =
    by-test (ltb n 10)
    (λ e. spells-by 0 n (omega arith) (one_place n n (ltb-true n 10 e)) (one-numeral n) (ltb-true n 10 e))
    (λ a. by-test (ltb n 100) (λ e. spells-many 1 n (omega arith) (ltb-false n 10 a) (ltb-true n 100 e))
    (λ b. by-test (ltb n 1000) (λ e. spells-many 2 n (omega arith) (ltb-false n 100 b) (ltb-true n 1000 e))
    (λ c. by-test (ltb n 10000) (λ e. spells-many 3 n (omega arith) (ltb-false n 1000 c) (ltb-true n 10000 e))
    (λ d. spells-many 4 n (omega arith) (ltb-false n 10000 d) h))))
