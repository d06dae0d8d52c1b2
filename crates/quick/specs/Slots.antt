-- What a run's engine goes by, and nobody beside 01 needs: slots by a record's first four bytes as one number, its key.
-- Assumes nothing.
use Rattle.std.specs.Prelude.{ℕ, ◌+◌, ◌/◌, ◌%◌, ◌^◌, Bool, true, cond, ◌&&◌, ◌||◌, List, [], ◌∷◌, eqb, leb, ltb}
use Rattle.access.specs.declared.record.Record.{Record}
use Rattle.places.specs.EngineCells.{wider, cell_width, cell_in}
use Rattle.quick.specs.declared.slots.Slot.{Slot}
use Rattle.quick.specs.Classes.{class_of}

-- the record of a key and a value
unfoldable pub by_the_key : ℕ → ℕ → Record
by_the_key key value = record { kind = key % 256; width = key / 256 % 256; address = key / 65536; value = value }

-- values below the limit fit; none does where no key has the slot
unfoldable pub limit_fits : ℕ → ℕ → ℕ → Bool
limit_fits kind width limit = leb limit (cond (eqb (kind % 2) 1) (256 ^ width) 1)

-- a slot says what a table of cells holds for its key: the cell of the key's kind and address, at the key's width, and what may refuse it
unfoldable pub slot_true : List ℕ → ℕ → ℕ → ℕ → ℕ → Bool
slot_true cells key limit class cell =
    let kind = key % 256 in
    let width = key / 256 % 256 in
    let address = key / 65536 in
    eqb limit 0
    || (ltb kind 6
    && limit_fits kind width limit
    && eqb class (class_of kind address)
    && ltb cell (0x7C + kind % 2)
    && eqb (cell_in cells kind address % wider) cell
    && eqb (cell_width (cell_in cells kind address)) width)

-- every slot
unfoldable pub slots_true : List ℕ → List Slot → Bool
slots_true cells [] = true
slots_true cells (s ∷ slots) = slot_true cells s.key s.limit s.class s.cell && slots_true cells slots

-- what stands past them
abbrev pub empty : Slot
empty = record { key = 0; limit = 0; class = 0; cell = 0 }
