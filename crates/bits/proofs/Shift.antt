-- The bits of a number that is shifted, cut off or all ones, and a number of k bits known by them.
-- Assumes nothing.
use Rattle.std.proofs.Common.{◌≡◌, ℕ, ◌+◌, ◌-◌, ◌*◌, ◌/◌, ◌%◌, ◌^◌, ◌<◌, ◌≤◌, ltb, sym, ap, ◌∙◌, lt_of_lt_of_le, arith, lit<, pow_mono, shr-shr, ltb-false, ltb-true}
use native.Mathlib.Nat.{div-eq_of_lt, mul-mod_left}
use lib.Pow.{shl-shr, field, mod-mod-pow, high, low, ones_split, ones_lt}
use Rattle.bits.specs.Store.{bit}
use Rattle.bits.proofs.Bit.{by_bits, bit-of-zero}
use Rattle.bits.proofs.Test.{by-test}

pub bit-shr : (i k n : ℕ) → bit i (n / 2 ^ k) ≡ bit (k + i) n
unfolding bit
bit-shr i k n = ap (λ (x : ℕ). x % 2) (shr-shr n k i)

-- i is below d + 1 + i
above : (i k : ℕ) → i < k → k ≡ k - (i + 1) + 1 + i
above i k h = omega arith

cut : (i d n : ℕ) → bit i (n % 2 ^ (d + 1 + i)) ≡ bit i n
unfolding bit
cut i d n = ap (λ (x : ℕ). x % 2) (field n (d + 1) i) ∙ mod-mod-pow (n / 2 ^ i) d 1

-- the k low bits of a number keep theirs
pub bit-mod : (i k n : ℕ) → i < k → bit i (n % 2 ^ k) ≡ bit i n
bit-mod i k n h = ap (λ (x : ℕ). bit i (n % 2 ^ x)) (above i k h) ∙ cut i (k - (i + 1)) n

-- a number of k bits has none from k on
pub bit-above : (i k n : ℕ) → n < 2 ^ k → k ≤ i → bit i n ≡ 0
unfolding bit
bit-above i k n h le = ap (λ (x : ℕ). x % 2) (div-eq_of_lt (lt_of_lt_of_le h (pow_mono le)))

pub bit-shl : (i k n : ℕ) → bit (k + i) (n * 2 ^ k) ≡ bit i n
bit-shl i k n = sym (bit-shr i k (n * 2 ^ k)) ∙ ap (bit i) (shl-shr n k)

pub bit_below : (i k n : ℕ) → i < k → bit i (n * 2 ^ k) ≡ 0
bit_below i k n h = sym (bit-mod i k (n * 2 ^ k) h) ∙ ap (bit i) (mul-mod_left n (2 ^ k)) ∙ bit-of-zero i

odd-ones : (d : ℕ) → (2 ^ (d + 1) - 1) % 2 ≡ 1
odd-ones d = ap (λ (x : ℕ). x % 2) (ones_split d 1) ∙ low (2 ^ d - 1) 1 (lit< tt)

ones : (i d : ℕ) → bit i (2 ^ (d + 1 + i) - 1) ≡ 1
unfolding bit
ones i d =
    ap (λ (x : ℕ). x / 2 ^ i % 2) (ones_split (d + 1) i)
    ∙ ap (λ (x : ℕ). x % 2) (high (2 ^ (d + 1) - 1) i (ones_lt i))
    ∙ odd-ones d

pub bit-ones : (i k : ℕ) → i < k → bit i (2 ^ k - 1) ≡ 1
bit-ones i k h = ap (λ (x : ℕ). bit i (2 ^ x - 1)) (above i k h) ∙ ones i (k - (i + 1))

-- two numbers of k bits with the same k bits are the same
pub by-low-bits : (k a b : ℕ) → a < 2 ^ k → b < 2 ^ k → ((i : ℕ) → i < k → bit i a ≡ bit i b) → a ≡ b
by-low-bits k a b ha hb h =
    by_bits a b
    (λ i. by-test (ltb i k) (λ e. h i (ltb-true i k e))
    (λ e. bit-above i k a ha (ltb-false i k e) ∙ sym (bit-above i k b hb (ltb-false i k e))))
