-- `cell_of` meets its contract. Assumes nothing.
use Prim.Native.Nat.{ℕ, ◌%◌}
use mathlib.Core.Path.{ap₂, ◌∙◌}
use mathlib.Core.List.{List}
use native.Mathlib.Omega.{arith}
use lib.Dec.{eqb}
use Rattle.places.specs.EngineCells.{config_cell, port_cell, mmio_cell, cell_in}
use Rattle.host.proofs.Found.{config-found}
use Rattle.host.proofs.finding.cell_of.Goals as goal

pub returns-in-2 : goal.returns-in-2
unfolding cell_in
returns-in-2 c =
    λ k.
    let write = eqb (c.args.kind % 2) 1 in (
      omega (arith, c.in-2.is),
      rw c.in-2.is (c.mmio_cell.ensures k write ∙ ap₂ (λ (l : List ℕ) (at : ℕ). mmio_cell l write at) c.cells-cells.ensures c.from-at.ensures),
    )

pub returns-in-1 : goal.returns-in-1
unfolding cell_in
returns-in-1 c =
    λ k.
    let write = eqb (c.args.kind % 2) 1 in (
      omega (arith, c.in-1.is),
      rw c.in-1.is (c.port_cell.ensures k ∙ ap₂ (λ (l : List ℕ) (at : ℕ). port_cell l write at) c.cells-cells.ensures c.from-at.ensures),
    )

pub returns-in-0 : goal.returns-in-0
unfolding cell_in
returns-in-0 c =
    λ k.
    let cells = c.cells-cells in
    let found = c.pick.ensures.0 k in (
      omega (arith, c.in-0.is),
      rw c.in-0.is (found.1 ∙ config-found cells.result c.from-at.result (omega (arith, found.0)) ∙ ap₂ (λ (l : List ℕ) (at : ℕ). config_cell l at) cells.ensures c.from-at.ensures),
    )
