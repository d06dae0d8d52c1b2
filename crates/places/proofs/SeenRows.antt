-- A lookup goes by registers and state alone. Assumes nothing.
use Prim.Native.Nat.{ℕ}
use mathlib.Core.Path.{◌≡◌, refl, ap₂}
use mathlib.Core.Bool.{Bool, cond, ◌&&◌}
use mathlib.Core.List.{List, [], ◌∷◌}
use mathlib.Core.Option.{Option, some}
use lib.Dec.{eqb}
use Rattle.file.specs.declared.registers.File.{File}
use Rattle.file.specs.File.{seen}
use Rattle.places.specs.Lookup.{selects, matches, first, row_at}
use Rattle.places.specs.Places.{Index, any, sr, cr, gr, ar, index_due, data_due, Row, places}

pub selects-seen : (f : File) (i : Index) → selects f i ≡ selects (seen f.registers f.state) i
unfolding selects seen
selects-seen f any = refl
selects-seen f (sr n) = refl
selects-seen f (cr n) = refl
selects-seen f (gr n) = refl
selects-seen f (ar n) = refl
selects-seen f index_due = refl
selects-seen f (data_due n) = refl

first-seen : (f : File) (kind address : ℕ) (rows : List Row)
    → first (matches f kind address) rows ≡ first (matches (seen f.registers f.state) kind address) rows
unfolding first matches
first-seen f kind address [] = refl
first-seen f kind address (row ∷ rows) =
    ap₂ (λ (b : Bool) (o : Option Row). cond (eqb kind row.kind && eqb address row.address && b) (some row) o)
    (selects-seen f row.index) (first-seen f kind address rows)

pub row_seen : (f : File) (kind address : ℕ) → row_at f kind address ≡ row_at (seen f.registers f.state) kind address
unfolding row_at seen
row_seen f kind address = first-seen f kind address (places f.state.chip)
