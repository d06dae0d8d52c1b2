-- Behind an indexed port stands the place of the cell that the index registers choose. Assumes nothing.
use Prim.Native.Nat.{ℕ, ◌+◌, ◌%◌, ◌<◌}
use mathlib.Core.Path.{◌≡◌, ap}
use mathlib.Core.List.{List}
use native.Mathlib.Nat.{mod-eq_of_lt}
use native.Mathlib.Omega.{arith}
use borrow.Author.Tests.{eqb-true, eqb-false, ltb-false}
use lib.Dec.{eqb, ltb}
use lib.ListN.{get_or}
use Rattle.file.specs.Names.{ARX}
use Rattle.bits.specs.Store.{bits}
use Rattle.bits.proofs.Test.{by-test}
use Rattle.file.specs.declared.registers.File.{File}
use Rattle.file.specs.File.{register}
use Rattle.places.specs.EngineCells.{first_indexed, wider, behind_arx, count_arx, plain_place, attribute_place, behind_cell, cell_place}
use Rattle.places.specs.Lookup.{attribute_index}

-- 'ARX[4:0]'
five-bits : (f : File) → attribute_index f ≡ get_or f.registers ARX 0 % count_arx
unfolding attribute_index register bits
five-bits f = omega arith

-- the index registers of a file decide, but at a write of 3C0h
pub place-behind : (cells : List ℕ) (f : File) (cell : ℕ) → cell < 0x7C → cell_place cells f cell ≡ plain_place (behind_cell cells f.registers cell)
unfolding behind_cell cell_place register
place-behind cells f cell h =
    by-test (ltb cell first_indexed)
    (λ e. rw (mod-eq_of_lt {n = cell} {m = wider} (omega arith), e))
    (λ e. by-test (eqb cell 0x79)
    (λ k. rw (eqb-true cell 0x79 k))
    (λ k. by-test (eqb cell 0x78)
    (λ l. rw (eqb-true cell 0x78 l))
    (λ l. by-test (eqb cell 0x7A)
    (λ m. rw (eqb-true cell 0x7A m))
    (λ m. let last : cell ≡ 0x7B = omega (arith, ltb-false cell first_indexed e, eqb-false cell 0x79 k, eqb-false cell 0x78 l, eqb-false cell 0x7A m) in
    rw last (ap (λ (n : ℕ). plain_place (get_or cells (behind_arx + n) 0)) (five-bits f))))))

-- a 3C0h write goes by the toggle
pub place-due : (cells : List ℕ) (f : File) → cell_place cells f 0x7C ≡ attribute_place f.state.toggle (behind_cell cells f.registers 0x7C)
unfolding behind_cell cell_place register
place-due cells f = ap (λ (n : ℕ). attribute_place f.state.toggle (get_or cells (behind_arx + n) 0)) (five-bits f)
