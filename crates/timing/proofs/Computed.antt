-- 01's table of timing numbers, wide and narrow: each rule of it that the proofs use is one computed test.
-- Assumes nothing.
use Prim.Native.Nat.{ℕ, ◌^◌, ◌<◌}
use mathlib.Core.Path.{◌≡◌, refl, sym, ap, ◌∙◌, subst}
use mathlib.Core.Bool.{Bool, true, false}
use mathlib.Core.List.{List, map}
use native.Mathlib.Omega.{arith}
use lib.Dec.{T}
use lib.ListN.{length, get_or, take}
use lib.Seq.{get_or-take}
use Rattle.bits.specs.Numbers.{read_from, read_numbers}
use Rattle.bits.specs.Pieces.{width, piece_reach}
use Rattle.bits.specs.Reach.{pieces_reach, disjoint, present, pieces_of, table_reach, fitting}
use Rattle.bits.specs.Store.{store, within}
use Rattle.bits.specs.Words.{most, bounded, read_words}
use Rattle.bits.proofs.Bounded.{words-numbers, read_below, read_first}
use Rattle.file.specs.declared.chip.Chip.{Chip}
use Rattle.file.specs.Names.{CR1A, CR1B}
use Rattle.file.specs.Registers.{register_count, stored_table, registers, singles, sequencer, crtc, graphics, attribute, pipeline}
use Rattle.timing.specs.Layout.{layout, range_of, row_range, storable, Lawful}
use Rattle.timing.specs.Promises.{free, unused}
use Rattle.timing.specs.Ranges.{ranges}
use Rattle.timing.specs.Table.{table}

-- the pieces lie in the file's registers and are disjoint
pub table_fits : (w : Bool) → T (fitting register_count (table w))
unfolding fitting disjoint present pieces_of pieces_reach piece_reach table
table_fits true = tt
table_fits false = tt

-- its numbers stay below 2^31
pub table-bounded : (w : Bool) → T (bounded (2 ^ 31) 0 (table w))
unfolding bounded most width table
table-bounded true = tt
table-bounded false = tt

table-count : (w : Bool) → length (table w) ≡ 15
unfolding table
table-count true = refl
table-count false = refl

-- so in fifteen places their words are the numbers themselves
pub words-read : (w : Bool) (registers places : List ℕ) → length places ≡ 15
    → read_words 0 (table w) registers places ≡ read_numbers (table w) registers
words-read w registers places e =
    words-numbers (2 ^ 31) (table w) registers places (omega arith) (table-bounded w) (e ∙ sym (table-count w))

-- all but the last, the screen start, below 2^16
first-bounded : (w : Bool) → T (bounded (2 ^ 16) 0 (take 14 (table w)))
unfolding bounded most width table
first-bounded true = tt
first-bounded false = tt

first_count : (w : Bool) → length (take 14 (table w)) ≡ 14
unfolding table
first_count true = refl
first_count false = refl

pub numbers-below : (w : Bool) (registers : List ℕ) (k : ℕ) → k < 14 → get_or (read_numbers (table w) registers) k 0 < 2 ^ 16
unfolding read_numbers
numbers-below w registers k h =
    subst (λ (x : ℕ). x < 2 ^ 16)
    (ap (λ (l : List ℕ). get_or l k 0) (read_first 0 (table w) registers 14) ∙ get_or-take 14 (read_from 0 (table w) registers) k 0 h)
    (read_below (2 ^ 16) 0 (take 14 (table w)) registers (first-bounded w) k (omega (arith, first_count w)))

-- its pieces lie in stored bits, which both chips share
pub table-stored : (chip : Chip) (w : Bool) → T (storable (stored_table chip) (pieces_of (table w)))
unfolding storable pieces_of piece_reach table within store stored_table registers singles sequencer crtc graphics attribute pipeline
table-stored chip true = tt
table-stored chip false = tt

-- and no number has a bit of the list `free`
pub table-unused : (w : Bool) → T (unused (table w) free)
unfolding unused free table_reach pieces_of pieces_reach piece_reach table
table-unused true = tt
table-unused false = tt

-- 'otherwise .. CR1A[7:4] isn't touched': the narrow table has no piece there
pub narrow-reach : table_reach (table false) CR1A ≡ 0
unfolding table_reach pieces_of pieces_reach piece_reach table
narrow-reach = refl

-- 'The writer never changes CR1B[5] or CR1B[7]'
pub wide-reach : (w : Bool) → table_reach (table w) CR1B ≡ 0x1D
unfolding table_reach pieces_of pieces_reach piece_reach table
wide-reach true = refl
wide-reach false = refl

-- 01's column of ranges is what its pieces and meanings give
column : (w : Bool) → map row_range (table w) ≡ ranges w
unfolding row_range range_of width table ranges
column true = refl
column false = refl

-- so the laws of layouts hold of each
pub layout-lawful : (chip : Chip) (w : Bool) → Lawful (layout chip w)
unfolding stored_table
layout-lawful chip w = record { fits = table_fits w; stores = table-stored chip w; column = column w }
