-- `behind` meets its contract. Assumes nothing.
use Prim.Native.Nat.{ℕ, ◌+◌}
use mathlib.Core.Path.{ap}
use native.Mathlib.Omega.{arith}
use lib.ListN.{get_or}
use borrow.Author.Tests.{lt-ltb, le-ltb, ne_eqb}
use Rattle.places.specs.EngineCells.{behind_srx, behind_crx, behind_grx, behind_arx, behind_cell}
use Rattle.places.proofs.decode.behind.Goals as goal

pub returns-then-cell-lt-FIRST_INDEXED : goal.returns-then-cell-lt-FIRST_INDEXED
unfolding behind_cell
returns-then-cell-lt-FIRST_INDEXED c = rw (lt-ltb _ _ c.if-cell-lt-FIRST_INDEXED.true)

pub returns-in-120 : goal.returns-in-120
unfolding behind_cell
returns-in-120 c = rw c.in-120.is (ap (λ (n : ℕ). get_or c.args.cells.now (behind_srx + n) 0) c.from.ensures)

pub returns-in-121 : goal.returns-in-121
unfolding behind_cell
returns-in-121 c = rw c.in-121.is (ap (λ (n : ℕ). get_or c.args.cells.now (behind_crx + n) 0) c.from-in-121.ensures)

pub returns-in-122 : goal.returns-in-122
unfolding behind_cell
returns-in-122 c = rw c.in-122.is (ap (λ (n : ℕ). get_or c.args.cells.now (behind_grx + n) 0) c.from-in-122.ensures)

pub returns-in_default : goal.returns-in_default
unfolding behind_cell
returns-in_default c =
    rw (le-ltb _ _ c.if-cell-lt-FIRST_INDEXED.false, ne_eqb c.args.cell 121 (λ e. omega arith), ne_eqb c.args.cell 120 (λ e. omega arith), ne_eqb c.args.cell 122 (λ e. omega arith))
    (ap (λ (n : ℕ). get_or c.args.cells.now (behind_arx + n) 0) c.from-in_default.ensures)
