-- Rules of the list of places, each by one computed test over it. Assumes nothing.
use Prim.Native.Nat.{ℕ, ◌/◌, ◌<◌}
use mathlib.Core.Path.{◌≡◌, refl, sym, ap, ◌∙◌, subst}
use mathlib.Core.Bool.{Bool, true, false, not, true≢false, ◌&&◌, ◌||◌}
use mathlib.Core.List.{[], ◌∷◌}
use lib.Dec.{T, eqb, leb}
use Rattle.bits.proofs.Test.{left, right, either, second, is_true}
use Rattle.file.specs.declared.registers.File.{File}
use Rattle.file.specs.Names.{SRX, ARX}
use Rattle.places.specs.declared.place.Place.{Place}
use Rattle.places.specs.EngineCells.{nothing_held, held_cell, in_file, takes_bytes}
use Rattle.places.specs.Lookup.{is_one_of, of_toggle, matches, place_at}
use Rattle.places.specs.Places.{Row, shared_places, own_places}
use Rattle.places.specs.Profile.{profile, stores_into, flips, lets_pass, resets}
use Rattle.places.proofs.CellsOfRows.{Outcome, nothing, held, outcome}
use Rattle.places.proofs.Rows.{every, everywhere, Passes, row-passes, place-passes}

-- 'An MMIO access moves no index register': none of its places stores into one
unfoldable pub mmio_rule : ℕ → ℕ → Place → Bool
unfolding profile stores_into
mmio_rule kind address place =
    not (eqb (kind / 2) 2) || not (leb SRX (stores_into (profile place).writing) && leb (stores_into (profile place).writing) ARX)

pub mmio-rule : (f : File) (kind address : ℕ) → T (mmio_rule kind address (place_at f kind address))
unfolding everywhere every shared_places own_places mmio_rule
mmio-rule f kind address = place-passes f kind address mmio_rule tt (second (not (eqb (kind / 2) 2)) true tt)

-- no other place moves the toggle
unfoldable pub toggle_rule : ℕ → ℕ → Place → Bool
unfolding profile flips resets
toggle_rule kind address place = of_toggle kind address || not (flips (profile place).writing || resets (profile place).reading)

pub toggle-rule : (f : File) (kind address : ℕ) → T (toggle_rule kind address (place_at f kind address))
unfolding everywhere every shared_places own_places toggle_rule of_toggle is_one_of
toggle-rule f kind address = place-passes f kind address toggle_rule tt (second (of_toggle kind address) true tt)

-- 02, 10/13: of kinds 0 to 5 no place lets lines pass
unfoldable pub line_rule : ℕ → ℕ → Place → Bool
unfolding profile lets_pass
line_rule kind address place = leb 6 kind || not (lets_pass (profile place).writing)

pub line-rule : (f : File) (kind address : ℕ) → T (line_rule kind address (place_at f kind address))
unfolding everywhere every shared_places own_places line_rule
line-rule f kind address = place-passes f kind address line_rule tt (second (leb 6 kind) true tt)

-- the registers that places name are the file's
pub place-in-file : (f : File) (kind address : ℕ) → T (in_file (place_at f kind address))
unfolding everywhere every shared_places own_places in_file
place-in-file f kind address = place-passes f kind address (λ (kind address : ℕ) (place : Place). in_file place) tt tt

-- the pointer's places are one byte wide
unfoldable pub narrow : Row → Bool
unfolding profile takes_bytes
narrow row = eqb row.width 1 || not (takes_bytes (profile row.place).writing)

pub all-narrow : T (everywhere narrow)
unfolding everywhere every narrow shared_places own_places
all-narrow = tt

-- ---- of the ports that are held, those of the CRTC are 3B?h and 3D?h

-- two tests agree
unfoldable pub agree : Bool → Bool → Bool
agree true b = b
agree false b = not b

agreed : (a b : Bool) → T (agree a b) → a ≡ b
unfolding agree
agreed true true t = refl
agreed true false t = absurd t
agreed false true t = absurd t
agreed false false t = refl

abbrev pub Mono : ℕ → Bool
Mono a = is_one_of (0x3B4 ∷ 0x3B5 ∷ 0x3BA ∷ []) a

abbrev pub Colour : ℕ → Bool
Colour a = is_one_of (0x3D4 ∷ 0x3D5 ∷ 0x3DA ∷ []) a

unfoldable pub halved : Row → Bool
halved row =
    not (eqb (row.kind / 2) 1)
    || agree (Mono row.address) (eqb (row.address / 16) 0x3B) && agree (Colour row.address) (eqb (row.address / 16) 0x3D)

all-halved : T (everywhere halved)
unfolding everywhere every halved agree is_one_of shared_places own_places
all-halved = tt

pub halves : (f : File) (kind address : ℕ) → kind < 6 → (held_cell f.state.chip kind address ≡ nothing_held → ⊥) → eqb (kind / 2) 1 ≡ true
    → (Mono address ≡ eqb (address / 16) 0x3B) × (Colour address ≡ eqb (address / 16) 0x3D)
unfolding halved
halves f kind address h some-cell port = by (outcome f kind address h)
  where
    by : Outcome f kind address → (Mono address ≡ eqb (address / 16) 0x3B) × (Colour address ≡ eqb (address / 16) 0x3D)
    by (nothing e c) = absurd (some-cell c)
    by (held row e k a s) =
        let passed : T (halved row && matches f kind address row) =
        subst (Passes (λ (row : Row). halved row && matches f kind address row)) e (row-passes f kind address halved all-halved) in
        let both_right : T (agree (Mono row.address) (eqb (row.address / 16) 0x3B) && agree (Colour row.address) (eqb (row.address / 16) 0x3D)) =
        either (not (eqb (row.kind / 2) 1)) (agree (Mono row.address) (eqb (row.address / 16) 0x3B) && agree (Colour row.address) (eqb (row.address / 16) 0x3D))
        (left (halved row) (matches f kind address row) passed)
        (λ n. true≢false (sym (is_true (not (eqb (row.kind / 2) 1)) n) ∙ ap not (subst (λ (m : ℕ). eqb (m / 2) 1 ≡ true) (sym k) port))) in
        subst (λ (m : ℕ). (Mono m ≡ eqb (m / 16) 0x3B) × (Colour m ≡ eqb (m / 16) 0x3D)) a (
          agreed (Mono row.address) (eqb (row.address / 16) 0x3B) (left (agree (Mono row.address) (eqb (row.address / 16) 0x3B)) (agree (Colour row.address) (eqb (row.address / 16) 0x3D)) both_right),
          agreed (Colour row.address) (eqb (row.address / 16) 0x3D) (right (agree (Mono row.address) (eqb (row.address / 16) 0x3B)) (agree (Colour row.address) (eqb (row.address / 16) 0x3D)) both_right),
        )
