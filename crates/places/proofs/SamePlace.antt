-- Two places are the same: a test that computes, by a tag and a number of each. Assumes nothing.
use Prim.Native.Nat.{ℕ}
use mathlib.Core.Path.{◌≡◌, refl, sym, ap₂, ◌∙◌}
use mathlib.Core.Bool.{Bool, ◌&&◌}
use mathlib.Core.List.{[], ◌∷◌}
use lib.Dec.{T, eqb, eqb→eq}
use lib.ListN.{get_or}
use Rattle.bits.proofs.Test.{left, right}
use Rattle.places.specs.declared.place.Place.{Place}
use Rattle.places.specs.declared.place.Place.TheVariants.{Register, Attribute, Fixed, DeviceId, ToggleState, AttributeIndex, PaletteState, VPortState, ReadAddress, WriteAddress, PixelData, ToggleReset, Unnamed, UnnamedAttribute, CurrentLine, Passing}

unfoldable pub tag : Place → ℕ
tag (Register n) = 0
tag (Attribute n) = 1
tag (Fixed n) = 2
tag ToggleState = 3
tag AttributeIndex = 4
tag PaletteState = 5
tag ReadAddress = 6
tag WriteAddress = 7
tag PixelData = 8
tag ToggleReset = 9
tag Unnamed = 10
tag UnnamedAttribute = 11
tag DeviceId = 12
tag VPortState = 13
tag CurrentLine = 14
tag Passing = 15

unfoldable pub number : Place → ℕ
number (Register n) = n
number (Attribute n) = n
number (Fixed n) = n
number ToggleState = 0
number AttributeIndex = 0
number PaletteState = 0
number ReadAddress = 0
number WriteAddress = 0
number PixelData = 0
number ToggleReset = 0
number Unnamed = 0
number UnnamedAttribute = 0
number DeviceId = 0
number VPortState = 0
number CurrentLine = 0
number Passing = 0

tagged : ℕ → ℕ → Place
tagged t n =
    get_or (Register n ∷ Attribute n ∷ Fixed n ∷ ToggleState ∷ AttributeIndex ∷ PaletteState ∷ ReadAddress ∷ WriteAddress ∷ PixelData ∷ ToggleReset ∷ Unnamed ∷ UnnamedAttribute ∷ DeviceId ∷ VPortState ∷ CurrentLine ∷ Passing ∷ []) t Unnamed

tag-number : (p : Place) → tagged (tag p) (number p) ≡ p
unfolding tag number tagged
tag-number (Register n) = refl
tag-number (Attribute n) = refl
tag-number (Fixed n) = refl
tag-number ToggleState = refl
tag-number AttributeIndex = refl
tag-number PaletteState = refl
tag-number ReadAddress = refl
tag-number WriteAddress = refl
tag-number PixelData = refl
tag-number ToggleReset = refl
tag-number Unnamed = refl
tag-number UnnamedAttribute = refl
tag-number DeviceId = refl
tag-number VPortState = refl
tag-number CurrentLine = refl
tag-number Passing = refl

unfoldable pub same_places : Place → Place → Bool
unfolding tag number
same_places p q = eqb (tag p) (tag q) && eqb (number p) (number q)

pub same_place : (p q : Place) → T (same_places p q) → p ≡ q
unfolding same_places
same_place p q t =
    sym (tag-number p)
    ∙ ap₂ tagged (eqb→eq (tag p) (tag q) (left (eqb (tag p) (tag q)) (eqb (number p) (number q)) t))
    (eqb→eq (number p) (number q) (right (eqb (tag p) (tag q)) (eqb (number p) (number q)) t))
    ∙ tag-number q
