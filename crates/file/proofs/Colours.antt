-- A colour number that is neither red nor green picks blue. Assumes nothing.
use Prim.Native.Nat.{ℕ, zero, suc}
use mathlib.Core.Path.{◌≡◌, refl}
use Rattle.file.specs.Palette.{by_colour}

pub blue-left : {A : Type 0} (n : ℕ) (red green blue : A) → (n ≡ 0 → ⊥) → (n ≡ 1 → ⊥) → by_colour n red green blue ≡ blue
blue-left zero red green blue not-red not-green = absurd (not-red refl)
blue-left (suc zero) red green blue not-red not-green = absurd (not-green refl)
blue-left (suc (suc n)) red green blue not-red not-green = refl
