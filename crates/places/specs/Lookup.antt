-- The row of the list of places that a kind of record and an address find in a file, and what there is where they find none (02, 2/13).
-- Assumes nothing.
use Rattle.std.specs.Prelude.{ℕ, ◌+◌, ◌-◌, ◌/◌, ◌%◌, Bool, true, false, cond, not, ◌&&◌, ◌||◌, List, [], ◌∷◌, eqb, ltb}
use Rattle.std.proofs.Math.Option.{Option, none, some}
use Rattle.bits.specs.Store.{bits}
use Rattle.file.specs.declared.registers.File.{File}
use Rattle.file.specs.File.{register}
use Rattle.file.specs.Names.{SRX, CRX, GRX, ARX}
use Rattle.places.specs.declared.place.Place.{Place}
use Rattle.places.specs.declared.place.Place.TheVariants.{Unnamed}
use Rattle.places.specs.Places.{Index, any, sr, cr, gr, ar, index_due, data_due, Row, places}

-- a number is one of a list
unfoldable pub is_one_of : List ℕ → ℕ → Bool
is_one_of [] n = false
is_one_of (m ∷ ms) n = eqb m n || is_one_of ms n

-- 'The attribute index is ARX[4:0]'
unfoldable pub attribute_index : File → ℕ
unfolding register bits
attribute_index f = bits 4 0 (register f ARX)

-- the file's index registers and toggle select a row
unfoldable pub selects : File → Index → Bool
unfolding register attribute_index
selects f any = true
selects f (sr n) = eqb (register f SRX) n
selects f (cr n) = eqb (register f CRX) n
selects f (gr n) = eqb (register f GRX) n
selects f (ar n) = eqb (attribute_index f) n
selects f index_due = not f.state.toggle
selects f (data_due n) = f.state.toggle && eqb (attribute_index f) n

unfoldable pub matches : File → ℕ → ℕ → Row → Bool
matches f kind address row = eqb kind row.kind && eqb address row.address && selects f row.index

-- the first row of a list that passes a test
unfoldable pub first : (Row → Bool) → List Row → Option Row
first test [] = none
first test (row ∷ rows) = cond (test row) (some row) (first test rows)

-- 02, 10/13: which places there are goes by the file's chip
unfoldable pub row_at : File → ℕ → ℕ → Option Row
row_at f kind address = first (matches f kind address) (places f.state.chip)

unfoldable pub place_of_row : Option Row → Place
place_of_row none = Unnamed
place_of_row (some row) = row.place

unfoldable pub place_at : File → ℕ → ℕ → Place
place_at f kind address = place_of_row (row_at f kind address)

-- ---- 02, 2/13: an address that is not held

-- the kind of record of the same space in the other direction
unfoldable pub other_way : ℕ → ℕ
other_way kind = cond (eqb (kind % 2) 0) (kind + 1) (kind - 1)

-- some row of a list passes a test
unfoldable pub some_row : (Row → Bool) → List Row → Bool
some_row test [] = false
some_row test (row ∷ rows) = test row || some_row test rows

-- a list holds an address for a kind of record, whatever the index
unfoldable pub held_in : List Row → ℕ → ℕ → Bool
held_in rows kind address = some_row (λ (row : Row). eqb address row.address && eqb kind row.kind) rows

-- a row of more than one byte in the same space, in either direction
unfoldable pub is_wider : ℕ → Row → Bool
is_wider kind row = eqb (kind / 2) (row.kind / 2) && ltb 1 row.width

-- 'it falls inside a wider register': such a row stands one byte below; no register has more than two bytes
unfoldable pub inside_in : List Row → ℕ → ℕ → Bool
inside_in rows kind address = some_row (λ (row : Row). eqb address (row.address + 1) && is_wider kind row) rows

-- 'Only 3C0h writes and 3?Ah reads move the toggle': the kinds and addresses of these
unfoldable pub of_toggle : ℕ → ℕ → Bool
of_toggle kind address = eqb kind 3 && eqb address 0x3C0 || eqb kind 2 && is_one_of (0x3BA ∷ 0x3DA ∷ []) address
