-- 02, 8/13, 'it walks a flat list of places': the row that a record means, and what there is where it means none, read off rows.
-- Assumes nothing.
use Rattle.std.specs.Prelude.{ℕ, ◌-◌, ◌/◌, ◌%◌, Bool, cond, not, ◌&&◌, ◌||◌, eqb, ltb}
use Rattle.file.specs.declared.chip.Chip.{Chip}
use Rattle.file.specs.declared.registers.File.{File}
use Rattle.places.specs.Lookup.{selects, other_way}
use Rattle.plain.specs.declared.row.Row.{Row}
use Rattle.plain.specs.Rows.{space, of_chip, index_of}

-- a row is for a kind of record and an address
unfoldable pub is_at : ℕ → ℕ → Row → Bool
is_at kind address row = eqb address row.address && (eqb (kind / 2) (space row) && cond (eqb (kind % 2) 0) row.reads row.writes)

-- a file selects a row
unfoldable pub selected : File → Row → Bool
selected f row = of_chip f.state.chip row && selects f (index_of row)

unfoldable pub fits : File → ℕ → ℕ → Row → Bool
unfolding is_at selected
fits f kind address row = is_at kind address row && selected f row

-- a row of a chip holds an address for a kind of record, whatever the index
unfoldable pub holds : Chip → ℕ → ℕ → Row → Bool
unfolding is_at
holds chip kind address row = is_at kind address row && of_chip chip row

-- 02, 2/13, 'it falls inside a wider register': a row of two bytes begins one byte below, in either direction
unfoldable pub inside : Chip → ℕ → ℕ → Row → Bool
unfolding holds
inside chip kind address row =
    not (ltb row.width 2)
    && (not (eqb address 0) && (holds chip kind (address - 1) row || holds chip (other_way kind) (address - 1) row))
