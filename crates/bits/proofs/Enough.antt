-- Of a number that is kept in 32 bits, 32 of its pieces' bits are enough: to shift by, to tell what it means and whether it is in range. Assumes nothing.
use Rattle.std.proofs.Common.{◌≡◌, ℕ, ◌+◌, ◌-◌, ◌/◌, ◌%◌, ◌^◌, ◌<◌, ◌≤◌, min, Bool, ◌&&◌, ltb, leb, sym, refl, ap, ◌∙◌, subst, le_refl, lt_of_lt_of_le, mod-lt, mod-eq_of_lt, arith, pow_pos, pow_mono, lt-ltb, le-leb, leb-false, leb-true}
use native.Mathlib.Nat.{mod-add-mod, div-eq_of_lt}
use lib.Pow.{mod-mod-pow}
use Rattle.bits.specs.Numbers.{Meaning, plus, end_of_last, end_after, meant, in_range}
use Rattle.bits.proofs.Ends.{end_low}
use Rattle.bits.proofs.Test.{by-test}

-- a fact of the bits of a width, where 32 are all of them and where they are not
by_width : (P : ℕ → Type 0) (n : ℕ) → (n ≤ 32 → P n) → (32 ≤ n → P 32) → P (min 32 n)
by_width P n few many =
    by-test (leb 32 n)
    (λ t. subst P (sym (clipped (leb-true 32 n t))) (many (leb-true 32 n t)))
    (λ t. subst P (sym (whole (leb-false 32 n t))) (few (omega (arith, leb-false 32 n t))))
  where
    clipped : 32 ≤ n → min 32 n ≡ 32
    clipped h = omega arith

    whole : n < 32 → min 32 n ≡ n
    whole h = omega arith

pub shifted-out : (number below : ℕ) → number < 2 ^ 32 → 32 ≤ below → number / 2 ^ below ≡ 0
shifted-out number below h l = div-eq_of_lt (lt_of_lt_of_le h (pow_mono l))

-- above its 32 bits a number has nothing
pub shift-enough : (number below : ℕ) → number < 2 ^ 32 → number / 2 ^ min 32 below ≡ number / 2 ^ below
shift-enough number below h =
    by_width (λ (x : ℕ). number / 2 ^ x ≡ number / 2 ^ below) below (λ few. refl)
    (λ many. shifted-out number 32 h (le_refl 32) ∙ sym (shifted-out number below h many))

-- an end's low bits are those stored
low-of-end : (start n low : ℕ) → 32 ≤ n → low < 2 ^ n → end_after start n low % 2 ^ 32 ≡ low % 2 ^ 32
low-of-end start n low h l =
    sym (mod-mod-pow (end_after start n low) (n - 32) 32)
    ∙ ap (λ (x : ℕ). end_after start n low % 2 ^ x % 2 ^ 32) split
    ∙ ap (λ (x : ℕ). x % 2 ^ 32) (end_low start n low l)
  where
    split : n - 32 + 32 ≡ n
    split = omega arith

pub meant-enough : (m : Meaning) (n last stored : ℕ) → stored < 2 ^ n
    → meant m (min 32 n) last (stored % 2 ^ 32) % 2 ^ 32 ≡ meant m n last stored % 2 ^ 32
unfolding meant
meant-enough (plus k) n last stored h = mod-add-mod stored (2 ^ 32) k
meant-enough end_of_last n last stored h =
    by_width (λ (x : ℕ). end_after last x (stored % 2 ^ 32) % 2 ^ 32 ≡ end_after last n stored % 2 ^ 32) n
    (λ few. ap (λ (x : ℕ). end_after last n x % 2 ^ 32) (mod-eq_of_lt (lt_of_lt_of_le h (pow_mono few))))
    (λ many. end_low last 32 (stored % 2 ^ 32) (mod-lt stored (pow_pos 32)) ∙ sym (low-of-end last n stored many h))

pub range-enough : (m : Meaning) (n last number : ℕ) → number < 2 ^ 32 → in_range m (min 32 n) last number ≡ in_range m n last number
unfolding in_range
range-enough (plus k) n last number h =
    by_width (λ (x : ℕ). (leb k number && ltb number (k + 2 ^ x)) ≡ (leb k number && ltb number (k + 2 ^ n))) n (λ few. refl)
    (λ many. ap (λ (b : Bool). leb k number && b)
    (lt-ltb number (k + 2 ^ 32) (omega arith) ∙ sym (lt-ltb number (k + 2 ^ n) (omega (arith, pow_mono {i = 32} {j = n} many)))))
range-enough end_of_last n last number h =
    by_width (λ (x : ℕ). (ltb last number && leb number (last + 2 ^ x)) ≡ (ltb last number && leb number (last + 2 ^ n))) n (λ few. refl)
    (λ many. ap (λ (b : Bool). ltb last number && b)
    (le-leb number (last + 2 ^ 32) (omega arith) ∙ sym (le-leb number (last + 2 ^ n) (omega (arith, pow_mono {i = 32} {j = n} many)))))
