-- `tally::is_below` meets its contract: a product of two numbers of 32 bits has 64. Assumes nothing.
use Prim.Native.Nat.{ℕ, ◌*◌, ◌^◌, ◌≤◌, ◌<◌}
use native.Mathlib.Nat.{mul-le-mul}
use native.Mathlib.Omega.{arith}
use Rattle.clock_text.proofs.tally.is_below.Goals as goal

fits : (a b : ℕ) → a < 2 ^ 32 → b < 2 ^ 32 → a * b < 2 ^ 64
fits a b h k =
    let first : a ≤ 4294967295 = omega (arith, h) in
    let second : b ≤ 4294967295 = omega (arith, k) in
    let most : a * b ≤ 4294967295 * 4294967295 = mul-le-mul first second in
    omega (arith, most)

pub overflow_mul-result : goal.overflow_mul-result
overflow_mul-result c = record { fits = fits _ _ (omega (arith, c.from.ensures)) (omega (arith, c.from-2.ensures)) }

pub overflow_mul-result-2 : goal.overflow_mul-result-2
overflow_mul-result-2 c = record { fits = fits _ _ (omega (arith, c.from-3.ensures)) (omega (arith, c.from-4.ensures)) }
