-- 02, 13/13: 'Both chips' reading, writing and ranges are proved once over a list of pieces.' A layout is a table of numbers in pieces, with its
-- ranges; here is the writer of any.
-- Assumes nothing.
use Rattle.std.specs.Prelude.{ℕ, ◌+◌, ◌-◌, ◌^◌, ◌≡◌, Bool, true, false, cond, ◌&&◌, List, [], ◌∷◌, map, T, get_or, length}
use Rattle.bits.specs.Numbers.{Meaning, plus, end_of_last, Number, all_in_range, write_numbers}
use Rattle.bits.specs.Pieces.{Piece, width, piece_reach}
use Rattle.bits.specs.Reach.{pieces_of, fitting}
use Rattle.bits.specs.Store.{within}
use Rattle.file.specs.declared.answer.Answer.{Answer}
use Rattle.file.specs.declared.answer.Answer.TheVariants.{Done, Locked, OutOfRange, NotSound}
use Rattle.file.specs.declared.chip.Chip.{Chip}
use Rattle.file.specs.Answers.{refused}
use Rattle.file.specs.Registers.{stored_table}
use Rattle.timing.specs.Ranges.{Range, ◌to◌, end_of_bits, ranges}
use Rattle.timing.specs.Table.{table}

-- the bits that each register stores, the numbers in their pieces, and the column of their ranges
pub record Layout : Type 0 where
  pub stored : List ℕ
  pub table : List Number
  pub ranges : List Range

-- 01, 'Timing': the register file's, wide or narrow; of 02, 6/13's chips, which share the table
abbrev pub layout : Chip → Bool → Layout
layout chip wide = record { stored = stored_table chip; table = table wide; ranges = ranges wide }

-- the range that a meaning and a width give, and a row of a table
unfoldable pub range_of : Meaning → ℕ → Range
range_of (plus k) n = k to (k + 2 ^ n - 1)
range_of end_of_last n = end_of_bits n

unfoldable pub row_range : Number → Range
row_range n = range_of n.meaning (width n.pieces)

-- each piece lies in bits that its register stores
unfoldable pub storable : List ℕ → List Piece → Bool
storable stored [] = true
storable stored (p ∷ ps) = within (get_or stored p.register 0) (piece_reach p) && storable stored ps

-- what the laws ask of a layout, each a computed test: its pieces are disjoint, lie in its registers and in bits that these store, and its
-- ranges are those that pieces and meanings give
pub record Lawful (l : Layout) : Type 0 where
  pub fits : T (fitting (length l.stored) l.table)
  pub stores : T (storable l.stored (pieces_of l.table))
  pub column : map row_range l.table ≡ l.ranges

-- 01, 'Timing writer: 12, 8, 10': whether the registers may be read at all, whether they are locked, and the numbers
unfoldable pub answer_by : Layout → Bool → Bool → List ℕ → Answer
answer_by l readable locked numbers =
    cond readable (cond locked Locked (cond (all_in_range l.table numbers) (Done 0) OutOfRange)) NotSound

-- 01, 'Codes from 2 up leave the file as given and lent bytes as found'; with 0 the numbers are written into their pieces
unfoldable pub registers_after : Layout → Answer → List ℕ → List ℕ → List ℕ
registers_after l answer numbers registers = cond (refused answer) registers (write_numbers l.table numbers registers)

-- the three tests that accepted numbers pass
pub record Accepted (l : Layout) (readable locked : Bool) (numbers : List ℕ) : Type 0 where
  pub is-readable : T readable
  pub unlocked : locked ≡ false
  pub ranged : T (all_in_range l.table numbers)
