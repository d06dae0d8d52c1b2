-- `look` meets its contract. Assumes nothing.
use mathlib.Core.Path.{sym, ap, ◌∙◌}
use borrow.Author.Tests.{eq-eqb, ne_eqb}
use Rattle.std.specs.Prelude.{Err}
use Rattle.access.specs.Engine.{looked_by}
use Rattle.access.proofs.engine.look.Goals as goal

pub returns-then-is_passing : goal.returns-then-is_passing
unfolding looked_by
returns-then-is_passing c = rw (sym c.is_no_access.ensures ∙ c.if-is_no_access.true, sym c.is_passing.ensures ∙ c.if-is_passing.true)

pub returns-else-is_passing : goal.returns-else-is_passing
unfolding looked_by
returns-else-is_passing c = rw (sym c.is_no_access.ensures ∙ c.if-is_no_access.true, sym c.is_passing.ensures ∙ c.if-is_passing.false)

pub returns-then-is_space_off : goal.returns-then-is_space_off
unfolding looked_by
returns-then-is_space_off c = rw (sym c.is_no_access.ensures ∙ c.if-is_no_access.false, sym c.is_space_off.ensures ∙ c.if-is_space_off.true)

pub returns-then-is_nothing : goal.returns-then-is_nothing
unfolding looked_by
returns-then-is_nothing c = rw (sym c.is_no_access.ensures ∙ c.if-is_no_access.false, sym c.is_space_off.ensures ∙ c.if-is_space_off.false, ← c.cell_at-cell.ensures, sym c.is_nothing.ensures ∙ c.if-is_nothing.true) (ap Err c.nothing_held.ensures)

pub returns-then-is_other_row : goal.returns-then-is_other_row
unfolding looked_by
returns-then-is_other_row c = rw (sym c.is_no_access.ensures ∙ c.if-is_no_access.false, sym c.is_space_off.ensures ∙ c.if-is_space_off.false, ← c.cell_at-cell.ensures, sym c.is_nothing.ensures ∙ c.if-is_nothing.false, sym c.is_other_row.ensures ∙ c.if-is_other_row.true)

pub returns-then-width_of-asked : goal.returns-then-width_of-asked
unfolding looked_by
returns-then-width_of-asked c = rw (sym c.is_no_access.ensures ∙ c.if-is_no_access.false, sym c.is_space_off.ensures ∙ c.if-is_space_off.false, ← c.cell_at-cell.ensures, sym c.is_nothing.ensures ∙ c.if-is_nothing.false, sym c.is_other_row.ensures ∙ c.if-is_other_row.false, ← c.width_of.ensures, ne_eqb _ _ c.if-width_of-asked.true)

pub returns : goal.returns
unfolding looked_by
returns c = rw (sym c.is_no_access.ensures ∙ c.if-is_no_access.false, sym c.is_space_off.ensures ∙ c.if-is_space_off.false, ← c.cell_at-cell.ensures, sym c.is_nothing.ensures ∙ c.if-is_nothing.false, sym c.is_other_row.ensures ∙ c.if-is_other_row.false, ← c.width_of.ensures, eq-eqb _ _ c.if-width_of-asked.false)
