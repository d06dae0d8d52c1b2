-- `short_plan` meets its contract. Assumes nothing.
use mathlib.Core.Path.{sym, ◌∙◌}
use native.Mathlib.Omega.{arith}
use Rattle.std.proofs.lemmas.Result.{err_from_is_err_and}
use Rattle.roads.proofs.PlanCount.{plan-room}
use Rattle.touched.proofs.SetIsSet.{is-set}
use Rattle.short_roads.proofs.ShortCount.{short-no-longer}
use Rattle.plan.proofs.FileIsFile.{is-file}
use Rattle.plan.proofs.ShortPromisesKept.{short-unplanned, short-small, short-made}
use Rattle.plan.proofs.short_planning.short_plan.Goals as goal

pub returns-in_err-refusal : goal.returns-in_err-refusal
returns-in_err-refusal c =
    let args = c.args in
    let p = err_from_is_err_and c.from_residual.result c.from_residual.ensures.1 in
    rw (p.1, p.2) (short-unplanned args.current args.saved args.set args.buffer.now _ (sym c.refusal.ensures ∙ c.in_err-refusal.was))

pub returns-then-buffer-lt8192 : goal.returns-then-buffer-lt8192
returns-then-buffer-lt8192 c =
    let args = c.args in
    short-small args.current args.saved args.set args.buffer.now (sym c.refusal.ensures ∙ c.in_ok-refusal.was) (omega (arith, c.if-buffer-lt8192.true))

pub put_short-requires : goal.put_short-requires
put_short-requires c =
    let w = c.args.saved in
    omega (arith, short-no-longer w c.args.set, plan-room w (is-file w _ c.well_formed.1.0), c.if-buffer-lt8192.false)

pub returns : goal.returns
returns c =
    short-made c.args.current c.args.saved c.args.set c.args.buffer.now (is-file c.args.saved _ c.well_formed.1.0)
    (is-set c.args.set _ c.well_formed.1.1.0) (sym c.refusal.ensures ∙ c.in_ok-refusal.was) (omega (arith, c.if-buffer-lt8192.false)) c.put_short.ensures
