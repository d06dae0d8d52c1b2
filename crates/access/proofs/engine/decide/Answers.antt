-- `decide` meets its contract. Assumes nothing.
use Prim.Native.Nat.{ℕ}
use mathlib.Core.List.{[]}
use mathlib.Core.Path.{sym, ap, ap₂, subst, ◌∙◌}
use Rattle.access.specs.Checks.{is_write}
use Rattle.access.specs.Access.{write_effect}
use Rattle.access.specs.Engine.{decided_write, decided_read}
use Rattle.file.specs.File.{seen}
use Rattle.places.specs.Profile.{passes_lines, profile}
use Rattle.access.proofs.SeenFiles.{looked-alike, decided-refused, decided-lines, decided-write, decided-read}
use lib.Dec.{T}
use Rattle.places.specs.declared.place.Place.{Place}
use Rattle.places.specs.EngineCells.{in_file}
use Rattle.places.proofs.CellsInFile.{cell-in-file}
use Rattle.access.proofs.PassedChecks.{word_fits, is-passing, passed, lines-told}
use borrow.Author.Tests.{eq-eqb, ne_eqb}
use Rattle.access.proofs.engine.decide.Goals as goal

pub overflow_cast-asked : goal.overflow_cast-asked
overflow_cast-asked c = record { fits = (is-passing c.args.asked (lines-told _ _ c.args.asked (sym c.look.ensures ∙ (rw c.in-Ok-Lines.field-0-is at c.in-Ok-Lines.is)))).value }

pub overflow_cast-asked-then-asked-eq1 : goal.overflow_cast-asked-then-asked-eq1
unfolding is_write
overflow_cast-asked-then-asked-eq1 c = record { fits = word_fits c.args.asked (passed _ _ c.args.asked _ (sym c.look.ensures ∙ (rw c.in-Ok-At.field-0-is at c.in-Ok-At.is))).formed (eq-eqb _ _ c.if-asked-eq1.true) }

pub write_at-requires : goal.write_at-requires
write_at-requires c = subst (λ (p : Place). T (in_file p)) (sym c.place_of-place.ensures) (cell-in-file _ _ _)

pub read_at-requires : goal.read_at-requires
read_at-requires c = subst (λ (p : Place). T (in_file p)) (sym c.place_of-place.ensures) (cell-in-file _ _ _)

pub returns-in-Err : goal.returns-in-Err
returns-in-Err c = c.only.ensures ∙ sym (decided-refused c.args.cells.now c.args.stored.now (seen c.args.registers.now c.args.state) c.args.asked _ (sym (looked-alike c.args.cells.now c.args.registers.now c.args.state c.args.asked) ∙ sym c.look.ensures ∙ c.in-Err.is))

pub returns-in-Ok-Lines : goal.returns-in-Ok-Lines
unfolding decided_write write_effect
returns-in-Ok-Lines c =
    c.pass_lines.ensures
    ∙ sym (decided-lines c.args.cells.now c.args.stored.now (seen c.args.registers.now c.args.state) c.args.asked
    (sym (looked-alike c.args.cells.now c.args.registers.now c.args.state c.args.asked) ∙ sym c.look.ensures ∙ (rw c.in-Ok-Lines.field-0-is at c.in-Ok-Lines.is)))

pub returns-then-asked-eq1 : goal.returns-then-asked-eq1
unfolding is_write
returns-then-asked-eq1 c = c.write_at.ensures
    ∙ ap (λ (p : Place). decided_write c.args.stored.now (seen c.args.registers.now c.args.state) (profile p).writing c.args.asked.value) c.place_of-place.ensures
    ∙ sym (decided-write c.args.cells.now c.args.stored.now (seen c.args.registers.now c.args.state) c.args.asked _ (sym (looked-alike c.args.cells.now c.args.registers.now c.args.state c.args.asked) ∙ sym c.look.ensures ∙ (rw c.in-Ok-At.field-0-is at c.in-Ok-At.is)) (eq-eqb _ _ c.if-asked-eq1.true))

pub returns-else-asked-eq1 : goal.returns-else-asked-eq1
unfolding is_write
returns-else-asked-eq1 c = c.read_at.ensures
    ∙ ap (λ (p : Place). decided_read (seen c.args.registers.now c.args.state) (profile p).reading) c.place_of-place.ensures
    ∙ sym (decided-read c.args.cells.now c.args.stored.now (seen c.args.registers.now c.args.state) c.args.asked _ (sym (looked-alike c.args.cells.now c.args.registers.now c.args.state c.args.asked) ∙ sym c.look.ensures ∙ (rw c.in-Ok-At.field-0-is at c.in-Ok-At.is)) (ne_eqb _ _ c.if-asked-eq1.false))
