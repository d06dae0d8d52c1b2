-- `sedgecoil_short_plan_parts` meets its contract. Assumes nothing.
use mathlib.Core.Path.{sym, ◌∙◌}
use Rattle.file.specs.Answers.{code_of}
use Rattle.host.proofs.Told.{short-unfit, short-done, short-no}
use Rattle.host.proofs.sedgecoil_short_plan_parts.Goals as goal

pub returns-then-not-fit : goal.returns-then-not-fit
unfolding code_of
returns-then-not-fit c = rw c.code.ensures (short-unfit _ _ _ _ _ _ (sym c.fit.ensures ∙ c.if-not-fit.true))

pub returns-in-Ok : goal.returns-in-Ok
returns-in-Ok c =
    short-done _ _ _ _ _ _ _ c.held-current.result c.held-wanted.result c.set_in-touched.result c.held-current.ensures c.held-wanted.ensures c.set_in-touched.ensures
    (sym c.fit.ensures ∙ c.if-not-fit.false) _ c.in-Ok.ensures

pub returns-in-Err : goal.returns-in-Err
returns-in-Err c =
    short-no _ _ _ _ _ _ _ c.held-current.result c.held-wanted.result c.set_in-touched.result c.held-current.ensures c.held-wanted.ensures c.set_in-touched.ensures
    (sym c.fit.ensures ∙ c.if-not-fit.false) _ c.in-Err.ensures _ (c.from.ensures ∙ c.code-in-Err.ensures)
