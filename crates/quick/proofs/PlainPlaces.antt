-- A plain cell names neither what a 3C0h write finds nor lines that pass. Assumes nothing.
use Prim.Native.Nat.{ℕ, zero, suc, ◌-◌}
use mathlib.Core.Path.{◌≡◌, subst}
use mathlib.Core.Bool.{Bool, true, false, ◌&&◌}
use mathlib.Core.List.{List, [], ◌∷◌}
use lib.Dec.{T, ltb}
use lib.ListN.{get_or}
use Rattle.bits.proofs.Test.{left, right, by-test}
use Rattle.file.specs.Registers.{register_count}
use Rattle.places.specs.declared.place.Place.{Place}
use Rattle.places.specs.declared.place.Place.TheVariants.{Register, Attribute, Fixed, DeviceId, ToggleState, AttributeIndex, PaletteState, VPortState, ReadAddress, WriteAddress, PixelData, ToggleReset, Unnamed, UnnamedAttribute, CurrentLine, Passing}
use Rattle.places.specs.EngineCells.{first_alone, alone, plain_place}
use Rattle.quick.specs.Turned.{Coded}

pub kept-codes : (registers codes : List ℕ) → Coded registers codes registers codes
unfolding Coded
kept-codes registers codes same = same

unfoldable pub is_plain : Place → Bool
is_plain (Register n) = true
is_plain (Attribute n) = false
is_plain (Fixed n) = true
is_plain DeviceId = true
is_plain ToggleState = true
is_plain AttributeIndex = true
is_plain PaletteState = true
is_plain VPortState = true
is_plain ReadAddress = true
is_plain WriteAddress = true
is_plain PixelData = true
is_plain ToggleReset = true
is_plain Unnamed = true
is_plain UnnamedAttribute = false
is_plain CurrentLine = true
is_plain Passing = false

unfoldable pub all_plain : List Place → Bool
all_plain [] = true
all_plain (p ∷ ps) = is_plain p && all_plain ps

in_list : (ps : List Place) (i : ℕ) → T (all_plain ps) → T (is_plain (get_or ps i Unnamed))
unfolding all_plain is_plain
in_list [] i t = tt
in_list (p ∷ ps) zero t = left (is_plain p) (all_plain ps) t
in_list (p ∷ ps) (suc i) t = in_list ps i (right (is_plain p) (all_plain ps) t)

plain-plain : (cell : ℕ) → T (is_plain (plain_place cell))
unfolding plain_place all_plain is_plain
plain-plain cell = by-test (ltb cell register_count) (λ e. rw e tt) (λ e. rw e (in_list alone (cell - first_alone) tt))

-- so a place that is none of these is no plain cell's
pub never-plain : {A : Type 0} (cell : ℕ) (place : Place) → plain_place cell ≡ place → is_plain place ≡ false → A
never-plain cell place there none = absurd (subst T none (subst (λ (p : Place). T (is_plain p)) there (plain-plain cell)))
