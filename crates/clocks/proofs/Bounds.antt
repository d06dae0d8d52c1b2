-- How many sets a buffer has. Assumes nothing.
use Prim.Native.Nat.{ℕ, ◌≤◌}
use mathlib.Core.List.{List, [], ◌∷◌}
use mathlib.Core.Path.{◌≡◌}
use native.Mathlib.Omega.{arith}
use lib.ListN.{length}
use Rattle.clock_text.specs.Sets.{set_clocks, set_count}

-- 6,144 bytes have at most 2,048 sets
pub part-within : (part : List ℕ) → length part ≤ 6144 → set_count part ≤ 2048
unfolding set_count
part-within part h = omega (arith, h)

pub part-full : (part : List ℕ) → length part ≡ 6144 → set_count part ≡ 2048
unfolding set_count
part-full part h = omega (arith, h)

-- there are as many as are counted
pub sets-counted : (part : List ℕ) → length (set_clocks part) ≡ set_count part
unfolding set_clocks set_count
sets-counted [] = omega arith
sets-counted (d ∷ []) = omega arith
sets-counted (d ∷ n ∷ []) = omega arith
sets-counted (d ∷ n ∷ z ∷ rest) = omega (arith, sets-counted rest)
