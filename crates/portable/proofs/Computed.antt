-- Table 9-1: each rule of it that the proofs use is one computed test. Assumes nothing.
use Prim.Native.Nat.{ℕ, ◌^◌, ◌<◌}
use mathlib.Core.Path.{◌≡◌, refl}
use mathlib.Core.List.{List}
use native.Mathlib.Omega.{arith}
use borrow.Author.Tests.{ltb-true, ltb-false}
use lib.Dec.{T, ltb}
use lib.ListN.{length, get_or, get_or-eq_default}
use Rattle.bits.specs.Numbers.{read_from, read_numbers}
use Rattle.bits.specs.Pieces.{width, piece_reach}
use Rattle.bits.specs.Reach.{pieces_reach, disjoint, present, pieces_of, fitting}
use Rattle.bits.specs.Store.{store, within}
use Rattle.bits.specs.Words.{most, bounded, read_words}
use Rattle.bits.proofs.Bounded.{words-numbers, read_below}
use Rattle.bits.proofs.Test.{by-test}
use Rattle.timing.specs.Layout.{range_of, row_range, storable, Lawful}
use Rattle.portable.specs.Table.{table, ranges, stored, layout}

-- the pieces are disjoint and lie in the 28 bytes, and the ranges are what pieces and meanings give: so the laws of layouts hold
pub layout-lawful : Lawful layout
unfolding fitting disjoint present pieces_of pieces_reach piece_reach storable within store row_range range_of width table ranges stored
layout-lawful = record { fits = tt; stores = tt; column = refl }

-- its numbers stay below 2^16
table-bounded : T (bounded (2 ^ 16) 0 table)
unfolding bounded most width table
table-bounded = tt

-- so in fourteen places their words are the numbers themselves
pub words-read : (registers places : List ℕ) → length places ≡ 14 → read_words 0 table registers places ≡ read_numbers table registers
unfolding table
words-read registers places e = words-numbers (2 ^ 16) table registers places (omega arith) table-bounded e

table-count : (registers : List ℕ) → length (read_numbers table registers) ≡ 14
unfolding table read_numbers read_from
table-count registers = refl

-- and have 16 bits, behind the last one too, where there is none
pub numbers-below : (registers : List ℕ) (k : ℕ) → get_or (read_numbers table registers) k 0 < 2 ^ 16
unfolding table read_numbers
numbers-below registers k =
    by-test (ltb k 14)
    (λ t. read_below (2 ^ 16) 0 table registers table-bounded k (ltb-true k 14 t))
    (λ t. omega (arith, get_or-eq_default (read_numbers table registers) 0 {n = k} (omega (arith, table-count registers, ltb-false k 14 t))))
