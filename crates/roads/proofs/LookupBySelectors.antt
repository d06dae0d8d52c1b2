-- A lookup goes by the index registers, MISC, the toggle and the chip alone. Assumes nothing.
use Prim.Native.Nat.{ℕ}
use mathlib.Core.Path.{◌≡◌, refl}
use mathlib.Core.Bool.{Bool}
use mathlib.Core.List.{List, [], ◌∷◌}
use Rattle.file.specs.declared.chip.Chip.{Chip}
use Rattle.file.specs.declared.registers.File.{File}
use Rattle.file.specs.File.{register, seen}
use Rattle.file.specs.Names.{MISC, SRX, CRX, GRX, ARX}
use Rattle.file.specs.State.{initial, toggling}
use Rattle.access.specs.declared.record.Record.{Record}
use Rattle.access.specs.Checks.{of_other_half}
use Rattle.places.specs.Lookup.{attribute_index, selects, matches, first, row_at}
use Rattle.places.specs.Places.{Index, any, sr, cr, gr, ar, index_due, data_due, Row, places}

-- what a lookup goes by
pub record Selectors : Type 0 where
  pub misc : ℕ
  pub srx : ℕ
  pub crx : ℕ
  pub grx : ℕ
  pub arx : ℕ
  pub toggle : Bool
  pub chip : Chip

unfoldable pub selectors_of : File → Selectors
selectors_of f =
    record {
      misc = register f MISC;
      srx = register f SRX;
      crx = register f CRX;
      grx = register f GRX;
      arx = register f ARX;
      toggle = f.state.toggle;
      chip = f.state.chip;
    }

-- a file that has no more than that
unfoldable pub bare_file : Selectors → File
unfolding seen initial toggling
bare_file v = seen (v.misc ∷ v.srx ∷ v.crx ∷ v.grx ∷ v.arx ∷ []) (toggling v.toggle (initial v.chip))

selects-by : (f : File) (i : Index) → selects (bare_file (selectors_of f)) i ≡ selects f i
unfolding bare_file selectors_of selects attribute_index register
selects-by f any = refl
selects-by f (sr n) = refl
selects-by f (cr n) = refl
selects-by f (gr n) = refl
selects-by f (ar n) = refl
selects-by f index_due = refl
selects-by f (data_due n) = refl

first_by : (f : File) (kind address : ℕ) (rows : List Row)
    → first (matches (bare_file (selectors_of f)) kind address) rows ≡ first (matches f kind address) rows
unfolding first matches
first_by f kind address [] = refl
first_by f kind address (row ∷ rows) = rw (selects-by f row.index, first_by f kind address rows)

-- a lookup in it finds the same row
pub row_by : (f : File) (kind address : ℕ) → row_at (bare_file (selectors_of f)) kind address ≡ row_at f kind address
unfolding row_at bare_file selectors_of
row_by f kind address = first_by f kind address (places f.state.chip)

-- and MISC[0] judges the same
pub half-by : (f : File) (r : Record) → of_other_half (bare_file (selectors_of f)) r ≡ of_other_half f r
unfolding of_other_half bare_file selectors_of register
half-by f r = refl
