-- What a host's access goes by, and nobody beside 01 needs: a record whose cell is known, and whose value fits its kind and width.
-- Assumes nothing.
use Rattle.std.specs.Prelude.{ℕ, ◌/◌, ◌%◌, ◌<◌, cond, T, eqb}
use Rattle.file.specs.declared.chip.Chip.{Chip}
use Rattle.places.specs.EngineCells.{cell_table}
use Rattle.quick.specs.Classes.{class_of}
use Rattle.quick.specs.Slots.{slot_true}

-- 'a write's value that doesn't fit the width; a read's value not 0': values below this fit, at width 1 or 2
unfoldable pub limit_of : ℕ → ℕ → ℕ
limit_of kind width = cond (eqb (kind % 2) 1) (cond (eqb width 1) 256 65536) 1

-- a record by its key and value, as a slot of the chip's cells would have it; 3C0h's write is none of these
pub record Known (chip : Chip) (key value cell : ℕ) : Type 0 where
  pub slot : T (slot_true (cell_table chip) key (limit_of (key % 256) (key / 256 % 256)) (class_of (key % 256) (key / 65536)) cell)
  pub fits : value < limit_of (key % 256) (key / 256 % 256)
  pub low : cell < 0x7C
