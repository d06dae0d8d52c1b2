-- `plan` meets its contract. Assumes nothing.
use mathlib.Core.Path.{sym, ◌∙◌}
use native.Mathlib.Omega.{arith}
use Rattle.roads.proofs.PlanCount.{plan-count, marking-few}
use Rattle.plan.proofs.FileIsFile.{is-file}
use Rattle.plan.proofs.PromisesKept.{plan-unsound, plan-not-red, plan-short, plan-made}
use Rattle.plan.proofs.planning.plan.Goals as goal

pub returns-then-not-is_sound : goal.returns-then-not-is_sound
returns-then-not-is_sound c =
    let args = c.args in
    plan-unsound args.wanted args.buffer.now (sym c.is_sound.ensures ∙ c.if-not-is_sound.true)

pub returns-then-wanted-ne0 : goal.returns-then-wanted-ne0
returns-then-wanted-ne0 c =
    let args = c.args in
    plan-not-red args.wanted args.buffer.now (sym c.is_sound.ensures ∙ c.if-not-is_sound.false) c.if-wanted-ne0.true

pub returns-then-buffer-lt8192 : goal.returns-then-buffer-lt8192
returns-then-buffer-lt8192 c =
    let args = c.args in
    plan-short args.wanted args.buffer.now (sym c.is_sound.ensures ∙ c.if-not-is_sound.false) c.if-wanted-ne0.false (omega (arith, c.if-buffer-lt8192.true))

pub put_plan-requires : goal.put_plan-requires
put_plan-requires c =
    let w = c.args.wanted in
    omega (arith, plan-count w (is-file w _ c.well_formed.0), marking-few w.state.marks, c.if-buffer-lt8192.false)

pub returns : goal.returns
returns c =
    plan-made c.args.wanted c.args.buffer.now (is-file c.args.wanted _ c.well_formed.0) (sym c.is_sound.ensures ∙ c.if-not-is_sound.false)
    c.if-wanted-ne0.false (omega (arith, c.if-buffer-lt8192.false)) c.put_plan.ensures
