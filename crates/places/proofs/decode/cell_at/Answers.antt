-- `cell_at` meets its contract. Assumes nothing.
use Prim.Native.Nat.{◌/◌}
use mathlib.Core.Path.{ap, ◌∙◌}
use native.Mathlib.Omega.{arith}
use borrow.Author.Tests.{eq-eqb, ne_eqb}
use Rattle.places.specs.EngineCells.{cell_in, port_cell, mmio_cell, config_cell}
use Rattle.places.proofs.decode.cell_at.Goals as goal

pub returns-in-0 : goal.returns-in-0
unfolding cell_in
returns-in-0 c = rw c.in-0.is (c.config_cell.ensures ∙ ap (config_cell _) c.from-at.ensures)

pub returns-in-1 : goal.returns-in-1
unfolding cell_in
returns-in-1 c = rw c.in-1.is (c.port_cell.ensures ∙ ap (port_cell _ _) c.from-at.ensures)

pub returns-in-2 : goal.returns-in-2
unfolding cell_in
returns-in-2 c = rw c.in-2.is (c.mmio_cell.ensures ∙ ap (mmio_cell _ _) c.from-at.ensures)

pub returns-in_default : goal.returns-in_default
unfolding cell_in
returns-in_default c = rw (ne_eqb (c.args.kind / 2) 0 (λ e. omega arith), ne_eqb (c.args.kind / 2) 1 (λ e. omega arith), ne_eqb (c.args.kind / 2) 2 (λ e. omega arith))
