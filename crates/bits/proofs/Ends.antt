-- 'An end of n bits means the smallest number greater than its start with those low n bits, so end minus start is 1 to 2^n.'
-- Assumes nothing.
use Rattle.std.proofs.Common.{◌≡◌, ℕ, ◌+◌, ◌-◌, ◌%◌, ◌^◌, ◌<◌, ◌≤◌, sym, ap, ◌∙◌, mod-lt, mod-eq_of_lt, arith, pow_pos}
use native.Mathlib.Nat.{mod-add-mod, add-mod-mod, add-mod_right}
use Rattle.bits.specs.Numbers.{end_after}

-- over any modulus: the step from s to the next number that leaves low
steps-to : (s low m : ℕ) → 0 < m → low < m → (s + (low + m - s % m) % m) % m ≡ low
steps-to s low m pos h =
    add-mod-mod s (low + m - s % m) m
    ∙ sym (mod-add-mod s m (low + m - s % m))
    ∙ ap (λ (x : ℕ). x % m) (omega (arith, mod-lt s pos))
    ∙ add-mod_right low m
    ∙ mod-eq_of_lt h

-- greater than its start
pub end-above : (start n low : ℕ) → start < end_after start n low
unfolding end_after
end-above start n low = omega arith

-- by at most 2^n
pub end-most : (start n low : ℕ) → end_after start n low ≤ start + 2 ^ n
unfolding end_after
end-most start n low = omega (arith, mod-lt (low + 2 ^ n - (start + 1) % 2 ^ n) (pow_pos n))

-- with those low bits
pub end_low : (start n low : ℕ) → low < 2 ^ n → end_after start n low % 2 ^ n ≡ low
unfolding end_after
end_low start n low h = steps-to (start + 1) low (2 ^ n) (pow_pos n) h

-- over any modulus: a number at most m above s is the step from s to its own low part
steps_back : (s d m : ℕ) → 0 < m → d < m → ((s + d) % m + m - s % m) % m ≡ d
steps_back s d m pos h =
    ap (λ (x : ℕ). x % m) (omega (arith, mod-lt s pos))
    ∙ mod-add-mod (s + d) m (m - s % m)
    ∙ ap (λ (x : ℕ). x % m) (omega arith)
    ∙ sym (mod-add-mod s m (d + (m - s % m)))
    ∙ ap (λ (x : ℕ). x % m) (omega (arith, mod-lt s pos))
    ∙ add-mod_right d m
    ∙ mod-eq_of_lt h

-- an end's number, 1 to 2^n above its start, is told by its low bits
pub end_of : (start n number : ℕ) → start < number → number ≤ start + 2 ^ n → end_after start n (number % 2 ^ n) ≡ number
unfolding end_after
end_of start n number above most =
    ap (λ (x : ℕ). start + 1 + (x % 2 ^ n + 2 ^ n - (start + 1) % 2 ^ n) % 2 ^ n) (sym whole)
    ∙ ap (λ (x : ℕ). start + 1 + x) (steps_back (start + 1) (number - (start + 1)) (2 ^ n) (pow_pos n) (omega arith))
    ∙ whole
  where
    whole : start + 1 + (number - (start + 1)) ≡ number
    whole = omega arith
