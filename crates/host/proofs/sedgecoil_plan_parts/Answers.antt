-- `sedgecoil_plan_parts` meets its contract. Assumes nothing.
use mathlib.Core.Path.{sym, ◌∙◌}
use Rattle.file.specs.Answers.{code_of}
use Rattle.host.proofs.Told.{plan-unfit, plan-done, plan-no}
use Rattle.host.proofs.sedgecoil_plan_parts.Goals as goal

pub returns-then-not-fits : goal.returns-then-not-fits
unfolding code_of
returns-then-not-fits c = rw c.code.ensures (plan-unfit _ _ _ (sym c.fits.ensures ∙ c.if-not-fits.true))

pub returns-in-Ok : goal.returns-in-Ok
returns-in-Ok c = plan-done _ _ _ _ c.held.result c.held.ensures (sym c.fits.ensures ∙ c.if-not-fits.false) _ c.in-Ok.ensures

pub returns-in-Err : goal.returns-in-Err
returns-in-Err c =
    plan-no _ _ _ _ c.held.result c.held.ensures (sym c.fits.ensures ∙ c.if-not-fits.false) _ c.in-Err.ensures _ (c.from.ensures ∙ c.code-in-Err.ensures)
