-- `sedgecoil_restore_parts` meets its contract. Assumes nothing.
use mathlib.Core.Path.{sym, ◌∙◌}
use Rattle.file.specs.Answers.{code_of}
use Rattle.host.proofs.Told.{restore-unfit, restore-done, restore-no}
use Rattle.host.proofs.sedgecoil_restore_parts.Goals as goal

pub returns-then-not-fit : goal.returns-then-not-fit
unfolding code_of
returns-then-not-fit c = rw c.code.ensures (restore-unfit _ _ _ _ _ (sym c.fit.ensures ∙ c.if-not-fit.true))

pub returns-in-Ok : goal.returns-in-Ok
returns-in-Ok c =
    restore-done _ _ _ _ _ _ c.held.result c.held-2.result c.held.ensures c.held-2.ensures (sym c.fit.ensures ∙ c.if-not-fit.false)
    c.restore-restored.result c.restore-restored.ensures _ c.in-Ok.is _ _ c.put_file.ensures.0 c.put_file.ensures.1

pub returns-in-Err : goal.returns-in-Err
returns-in-Err c =
    restore-no _ _ _ _ _ _ c.held.result c.held-2.result c.held.ensures c.held-2.ensures (sym c.fit.ensures ∙ c.if-not-fit.false)
    c.restore-restored.result c.restore-restored.ensures _ c.in-Err.is _ (c.from.ensures ∙ c.code-in-Err.ensures)
