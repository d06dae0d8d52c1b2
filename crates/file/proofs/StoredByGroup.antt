-- 02, 5/13 and 6/13: on each chip the groups have every register once and say of it what 01's and 02's lines say, and they stand in page order:
-- computed tests.
-- Assumes nothing.
use Prim.Native.Nat.{ℕ, ◌+◌, ◌*◌}
use Prim.Native.String.{String}
use mathlib.Core.Bool.{Bool, true, cond, ◌&&◌}
use mathlib.Core.List.{List, [], ◌∷◌, ◌++◌}
use lib.Dec.{T, eqb, leb, ltb}
use lib.ListN.{get_or, replicate}
use lib.Text.{eqt}
use Rattle.bits.proofs.Test.{every_below}
use Rattle.file.specs.declared.chip.Chip.{Chip}
use Rattle.file.specs.declared.chip.Chip.TheVariants.{Gd5462, Gd5464}
use Rattle.file.specs.Groups.{Row, Group, groups, rows_of}
use Rattle.file.specs.Named.{name_of}
use Rattle.file.specs.Registers.{register_count, registers, stored_bits, stored_table}

-- ---- every register, as before

infix 70 ◌of◌
abbrev ◌of◌ : ℕ → ℕ → List ℕ
count of stored = replicate count stored

-- 02, 6/13: 'Offset 10Ch differs: on the 5464 .. storing 01FFh; on the 5462 .. storing F3DFh'
unfoldable pub ten_cstored : Chip → ℕ
ten_cstored Gd5462 = 0xF3DF
ten_cstored Gd5464 = 0x01FF

-- 01, 'Stored bits', a line here for a line there: how many registers one behind the other, by number, store which bits. So it was before the groups.
-- The last line is 02's, 6/13
unfoldable pub stored_by_line : Chip → List ℕ
stored_by_line chip =
    1 of 0xEF ++ 1 of 0x1F ++ 3 of 0x3F ++ 1 of 0xFF ++ 1 of 0x0027
    ++ 1 of 0x03 ++ 1 of 0x3D ++ 1 of 0x0F ++ 1 of 0x3F ++ 1 of 0x0E ++ 1 of 0x01 ++ 8 of 0xFF ++ 4 of 0x7F
    ++ 8 of 0xFF ++ 1 of 0x7F ++ 1 of 0xFF ++ 1 of 0x3F ++ 1 of 0x7F ++ 8 of 0xFF ++ 1 of 0x7F ++ 2 of 0xFF ++ 1 of 0xEF ++ 4 of 0xFF ++ 1 of 0x18 ++ 1 of 0xFF
    ++ 3 of 0x0F ++ 1 of 0x1F ++ 1 of 0x03 ++ 1 of 0x7B ++ 2 of 0x0F ++ 1 of 0xFF
    ++ 16 of 0x3F ++ 1 of 0xEF ++ 1 of 0xFF ++ 1 of 0x3F ++ 2 of 0x0F
    ++ 1 of 0x88 ++ 2 of 0xFF ++ 1 of 0x3F3F ++ 4 of 0x0FFF ++ 1 of 0xFF ++ 1 of 0x3F ++ 2 of 0x0FFF ++ 1 of 0x7F7F ++ 1 of 0x1101 ++ 1 of 0x7FFC
    ++ 2 of 0x1F00 ++ 2 of 0x3FFF ++ 2 of 0x03FF ++ 1 of ten_cstored chip ++ 1 of 0x01FF

-- how many rows have this name on a chip
unfoldable pub times_in : Chip → List Row → String → ℕ
times_in chip [] name = 0
times_in chip (row ∷ rows) name = cond (eqt row.name name && row.is_on chip) 1 0 + times_in chip rows name

-- a register stands in the groups once, and its bits are those of before
unfoldable pub as_before : Chip → ℕ → Bool
as_before chip number = eqb (times_in chip (rows_of groups) (name_of number)) 1 && eqb (stored_bits chip number) (get_or (stored_by_line chip) number 0)

-- how many rows a chip has
unfoldable pub rows_on : Chip → List Row → ℕ
rows_on chip [] = 0
rows_on chip (row ∷ rows) = cond (row.is_on chip) 1 0 + rows_on chip rows

-- so it is of every register on each chip, and no row is of anything else
pub stored-as-before : (chip : Chip) → T (every_below (as_before chip) register_count && eqb (rows_on chip (rows_of groups)) register_count)
unfolding every_below as_before times_in rows_on name_of registers stored_bits stored_table stored_by_line ten_cstored
stored-as-before Gd5462 = tt
stored-as-before Gd5464 = tt

-- ---- in page order

-- no row's page is before that of the row above it, nor outside the pages of the group
unfoldable pub rows_rise : ℕ → ℕ → List Row → Bool
rows_rise from to [] = leb from to
rows_rise from to (row ∷ rows) = leb from row.page && rows_rise row.page to rows

-- a page's place in the whole manual; no chapter has 100 pages
abbrev placed : ℕ → ℕ → ℕ
placed chapter page = 100 * chapter + page

-- each group begins behind the last page of the one above it
unfoldable pub groups_rise : ℕ → List Group → Bool
groups_rise behind [] = true
groups_rise behind (group ∷ more) =
    ltb behind (placed group.chapter group.first_page)
    && rows_rise group.first_page group.last_page group.rows
    && groups_rise (placed group.chapter group.last_page) more

pub in-page-order : T (groups_rise 0 groups)
unfolding groups_rise rows_rise groups
in-page-order = tt
