-- The table of the hex digits has 01's capitals. Assumes nothing.
use Prim.Native.Nat.{ℕ, ◌<◌}
use mathlib.Core.List.{List, [], ◌∷◌}
use mathlib.Core.Path.{◌≡◌}
use lib.Dec.{T, eqb}
use lib.ListN.{get_or}
use borrow.Author.Tests.{eqb-true}
use Rattle.bits.proofs.Test.{below, every_below, is_true}
use Rattle.text.specs.Text.{capital}

abbrev pub capitals : List ℕ
capitals = 48 ∷ 49 ∷ 50 ∷ 51 ∷ 52 ∷ 53 ∷ 54 ∷ 55 ∷ 56 ∷ 57 ∷ 65 ∷ 66 ∷ 67 ∷ 68 ∷ 69 ∷ 70 ∷ []

all_there : T (every_below (λ (d : ℕ). eqb (get_or capitals d 0) (capital d)) 16)
unfolding every_below capital
all_there = tt

pub hex-digit : (d : ℕ) → d < 16 → get_or capitals d 0 ≡ capital d
hex-digit d h = eqb-true _ _ (is_true _ (below (λ (k : ℕ). eqb (get_or capitals k 0) (capital k)) 16 all_there d h))
