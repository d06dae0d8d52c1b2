-- A difference of two small numbers, signed, in 16 bits. Assumes nothing.
use Prim.Native.Nat.{ℕ, zero, suc, ◌^◌, ◌<◌}
use mathlib.Core.Path.{◌≡◌, refl, ap}
use native.Mathlib.Omega.{arith}
use borrow.Author.Tests.{le-ltb}
use lib.Dec.{ltb}
use lib.IntN.{pos, sub_ℕ, ◌-ℤ◌}
use mir.Syntax.{w16}
use mir.Val.{SFits, to_z}
use mir.ValLaws.{to_z-of_z}
use Rattle.bits.proofs.Test.{by-test}

small : (n : ℕ) → n < 2 ^ 15 → to_z w16 n ≡ pos n
small n h = to_z-of_z w16 (pos n) (record { sfits = h })

minus : (a b : ℕ) → pos a -ℤ pos b ≡ sub_ℕ a b
minus a zero = rw (le-ltb a 0 (omega arith)) (ap pos (omega arith))
minus a (suc b) = refl

module _ (a b : ℕ) (ha : a < 2 ^ 15) (hb : b < 2 ^ 15) where
  -- the difference that the machine takes
  pub difference : to_z w16 a -ℤ to_z w16 b ≡ sub_ℕ a b
  difference = rw (small a ha, small b hb) (minus a b)

  pub difference-fits : SFits w16 (sub_ℕ a b)
  difference-fits = by-test (ltb a b) (λ e. rw e (record { sfits = omega arith })) (λ e. rw e (record { sfits = omega arith }))
