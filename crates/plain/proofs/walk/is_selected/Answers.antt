-- `is_selected` meets its contract. Assumes nothing.
use Prim.Native.Nat.{ℕ, ◌%◌}
use mathlib.Core.Path.{◌≡◌}
use native.Mathlib.Omega.{arith}
use borrow.Author.Tests.{ne_eqb}
use Rattle.bits.specs.Store.{bits}
use Rattle.bits.proofs.Test.{and-true}
use Rattle.file.specs.File.{register}
use Rattle.places.specs.Lookup.{attribute_index, selects}
use Rattle.plain.specs.Rows.{of_chip, index_of}
use Rattle.plain.specs.Walk.{selected}
use Rattle.plain.proofs.walk.is_selected.Goals as goal

-- 'ARX[4:0]'
five-bits : (n : ℕ) → n % 32 ≡ bits 4 0 n
unfolding bits
five-bits n = omega arith

pub returns-in-83 : goal.returns-in-83
unfolding selected of_chip index_of selects register attribute_index
returns-in-83 c = rw c.in-83.is

pub returns-in-67 : goal.returns-in-67
unfolding selected of_chip index_of selects register attribute_index
returns-in-67 c = rw c.in-67.is

pub returns-in-71 : goal.returns-in-71
unfolding selected of_chip index_of selects register attribute_index
returns-in-71 c = rw c.in-71.is

pub returns-in-65 : goal.returns-in-65
unfolding selected of_chip index_of selects register attribute_index
returns-in-65 c = rw (c.in-65.is, five-bits)

pub returns-in-105 : goal.returns-in-105
unfolding selected of_chip index_of selects register attribute_index
returns-in-105 c = rw c.in-105.is

pub returns-then-state : goal.returns-then-state
unfolding selected of_chip index_of selects register attribute_index
returns-then-state c = rw (c.in-100.is, c.if-state.true, five-bits)

pub returns-else-state : goal.returns-else-state
unfolding selected of_chip index_of selects register attribute_index
returns-else-state c = rw (c.in-100.is, c.if-state.false)

pub returns-in_default : goal.returns-in_default
unfolding selected of_chip index_of selects register attribute_index
returns-in_default c = grind (arith, c.is_of_chip.ensures)
