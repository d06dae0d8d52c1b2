-- `behind` meets its contract. Assumes nothing.
use mathlib.Core.Path.{refl}
use native.Mathlib.Omega.{arith}
use borrow.Author.Tests.{lt-ltb, le-ltb, ne_eqb}
use Rattle.places.specs.EngineCells.{behind_cell, cell_table}
use Rattle.host.proofs.Found.{picked, beyond-crx, beyond-grx}
use Rattle.host.proofs.finding.behind.Goals as goal

pub returns-then-cell-lt120 : goal.returns-then-cell-lt120
unfolding behind_cell
returns-then-cell-lt120 c = rw (lt-ltb _ _ c.if-cell-lt120.true)

pub returns-in-120 : goal.returns-in-120
unfolding behind_cell
returns-in-120 c =
    let cells = c.cells-cells in
    let number = c.from in
    let pick = c.pick in
    rw c.in-120.is
    (picked (cell_table c.args.chip) cells.result cells.ensures 96 128 number.result _ pick.result number.ensures (λ h. absurd (let never : ⊥ = omega (arith, h) in never)) (pick.ensures.1 refl (omega arith)))

pub returns-in-121 : goal.returns-in-121
unfolding behind_cell
returns-in-121 c =
    let cells = c.cells-cells in
    let number = c.from-in-121 in
    let pick = c.pick-in-121 in
    rw c.in-121.is
    (picked (cell_table c.args.chip) cells.result cells.ensures 128 168 number.result _ pick.result number.ensures (λ h. beyond-crx c.args.chip _ (omega (arith, h)) (omega arith)) (pick.ensures.1 refl (omega arith)))

pub returns-in-122 : goal.returns-in-122
unfolding behind_cell
returns-in-122 c =
    let cells = c.cells-cells in
    let number = c.from-in-122 in
    let pick = c.pick-in-122 in
    rw c.in-122.is
    (picked (cell_table c.args.chip) cells.result cells.ensures 192 208 number.result _ pick.result number.ensures (λ h. beyond-grx c.args.chip _ (omega (arith, h)) (omega arith)) (pick.ensures.1 refl (omega arith)))

pub returns-in_default : goal.returns-in_default
unfolding behind_cell
returns-in_default c =
    let cells = c.cells-cells in
    let number = c.from-in_default in
    let pick = c.pick-in_default in
    rw (le-ltb _ _ c.if-cell-lt120.false, ne_eqb c.args.cell 121 (λ e. omega arith), ne_eqb c.args.cell 120 (λ e. omega arith), ne_eqb c.args.cell 122 (λ e. omega arith))
    (picked (cell_table c.args.chip) cells.result cells.ensures 256 288 number.result _ pick.result number.ensures (λ h. absurd (let never : ⊥ = omega (arith, h) in never)) (pick.ensures.1 refl (omega arith)))
