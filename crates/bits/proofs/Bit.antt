-- The bits of a number: what `bit_and`, `bit_or` and `bit_xor` do to each, and that a number is known by its bits.
-- Assumes nothing.
use Rattle.std.proofs.Common.{◌≡◌, ℕ, zero, suc, ◌+◌, ◌*◌, ◌/◌, ◌%◌, ◌^◌, ◌<◌, min, max, sym, refl, ap, ◌∙◌, ap₂, le_of_suc-le-suc, not-suc-le-zero, mod-lt, div-add-mod', div-one, one-add, lit<, shr-shr}
use native.Mathlib.Nat.{zero-div}
use lib.Arith.{digits_mod, bin_ind}
use lib.Bits.{bit_and, bit_or, bit_xor, differ, and_step, or_step, xor_step, and_shr, or_shr, xor_shr}
use Rattle.bits.specs.Store.{bit}

-- what holds of 0 and of 1 holds of each bit
pub by_bit : (P : ℕ → Type 0) → P 0 → P 1 → (x : ℕ) → x < 2 → P x
by_bit P p q zero h = p
by_bit P p q (suc zero) h = q
by_bit P p q (suc (suc x)) h = absurd (not-suc-le-zero (le_of_suc-le-suc (le_of_suc-le-suc h)))

pub bit-lt : (i n : ℕ) → bit i n < 2
unfolding bit
bit-lt i n = mod-lt (n / 2 ^ i) (lit< tt)

pub bit-zero : (n : ℕ) → bit 0 n ≡ n % 2
unfolding bit
bit-zero n = ap (λ (x : ℕ). x % 2) (div-one n)

pub bit-suc : (i n : ℕ) → bit (suc i) n ≡ bit i (n / 2)
unfolding bit
bit-suc i n = ap (λ (x : ℕ). x % 2) (sym (shr-shr n 1 i ∙ ap (λ (k : ℕ). n / 2 ^ k) (one-add i)))

-- a bit of 0 is 0
pub bit-of-zero : (i : ℕ) → bit i 0 ≡ 0
unfolding bit
bit-of-zero i = ap (λ (x : ℕ). x % 2) (zero-div (2 ^ i))

-- an operation that goes bit by bit does to each bit what it does to the lowest
module _ (op pick : ℕ → ℕ → ℕ) (step : (a b : ℕ) → op a b ≡ op (a / 2) (b / 2) * 2 + pick (a % 2) (b % 2))
    (shr : (a b k : ℕ) → op a b / 2 ^ k ≡ op (a / 2 ^ k) (b / 2 ^ k)) (lt : (x y : ℕ) → x < 2 → y < 2 → pick x y < 2) where
  bit-by : (i a b : ℕ) → bit i (op a b) ≡ pick (bit i a) (bit i b)
  unfolding bit
  bit-by i a b =
      ap (λ (x : ℕ). x % 2) (shr a b i ∙ step (a / 2 ^ i) (b / 2 ^ i))
      ∙ digits_mod (op (a / 2 ^ i / 2) (b / 2 ^ i / 2))
      (lt (a / 2 ^ i % 2) (b / 2 ^ i % 2) (mod-lt (a / 2 ^ i) (lit< tt)) (mod-lt (b / 2 ^ i) (lit< tt)))

-- and what it makes of two bits is a bit, if it makes one of each of the four
two-bits : (pick : ℕ → ℕ → ℕ) → pick 0 0 < 2 → pick 0 1 < 2 → pick 1 0 < 2 → pick 1 1 < 2 → (x y : ℕ) → x < 2 → y < 2 → pick x y < 2
two-bits pick p q r s x y hx hy =
    by_bit (λ (x : ℕ). pick x y < 2) (by_bit (λ (y : ℕ). pick 0 y < 2) p q y hy) (by_bit (λ (y : ℕ). pick 1 y < 2) r s y hy) x hx

pub bit-and : (i a b : ℕ) → bit i (bit_and a b) ≡ min (bit i a) (bit i b)
bit-and = bit-by bit_and min and_step and_shr (two-bits min (lit< tt) (lit< tt) (lit< tt) (lit< tt))

pub bit-or : (i a b : ℕ) → bit i (bit_or a b) ≡ max (bit i a) (bit i b)
bit-or = bit-by bit_or max or_step or_shr (two-bits max (lit< tt) (lit< tt) (lit< tt) (lit< tt))

pub bit-xor : (i a b : ℕ) → bit i (bit_xor a b) ≡ differ (bit i a) (bit i b)
bit-xor = bit-by bit_xor differ xor_step xor_shr (two-bits differ (lit< tt) (lit< tt) (lit< tt) (lit< tt))

-- a number with no bit set is 0
no_bits : (n : ℕ) → ((i : ℕ) → bit i n ≡ 0) → n ≡ 0
no_bits =
    bin_ind (λ (n : ℕ). ((i : ℕ) → bit i n ≡ 0) → n ≡ 0) (λ h. refl)
    (λ n ih h. sym (div-add-mod' n 2)
    ∙ ap₂ (λ (x y : ℕ). x * 2 + y) (ih (λ i. sym (bit-suc i n) ∙ h (suc i))) (sym (bit-zero n) ∙ h 0))

-- two numbers with the same bits are the same
pub by_bits : (a b : ℕ) → ((i : ℕ) → bit i a ≡ bit i b) → a ≡ b
by_bits a =
    bin_ind (λ (n : ℕ). (b : ℕ) → ((i : ℕ) → bit i n ≡ bit i b) → n ≡ b)
    (λ b h. sym (no_bits b (λ i. sym (h i) ∙ bit-of-zero i)))
    (λ n ih b h. sym (div-add-mod' n 2)
    ∙ ap₂ (λ (x y : ℕ). x * 2 + y)
    (ih (b / 2) (λ i. sym (bit-suc i n) ∙ h (suc i) ∙ bit-suc i b))
    (sym (bit-zero n) ∙ h 0 ∙ bit-zero b)
    ∙ div-add-mod' b 2) a
