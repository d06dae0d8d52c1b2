-- `restore` meets its contract. Assumes nothing.
use Prim.Native.Nat.{◌*◌, ◌≤◌}
use mathlib.Core.Path.{sym, ◌∙◌}
use native.Mathlib.Omega.{arith}
use lib.Seq.{length-take-le}
use Rattle.roads.proofs.PlanServes.{same-chip}
use Rattle.plan.proofs.FileIsFile.{is-file}
use Rattle.plan.proofs.PromisesKept.{written-room, written-few, run-file}
use Rattle.restoring.proofs.PromiseKept.{restore-done}
use Rattle.restoring.proofs.restore.Goals as goal

pub slice_bounds-run-end : goal.slice_bounds-run-end
slice_bounds-run-end c = written-room c.in-Ok.ensures.told.written

pub slice_bounds-run-end-in-Ok : goal.slice_bounds-run-end-in-Ok
slice_bounds-run-end-in-Ok c = sym (length-take-le _ _ (written-room c.in-Ok.ensures.told.written))

pub returns-in-Ok : goal.returns-in-Ok
returns-in-Ok c =
    let current = c.args.current in
    let planned = c.in-Ok.ensures in
    let wrote = planned.told.written in
    let enough : 8 * c.in-Ok.count ≤ 8192 = omega (arith, written-few wrote) in
    let file = is-file current _ c.well_formed.0 in
    restore-done c.in-Ok.count planned file c.run-ran.result.file
    (c.run-ran.ensures.answer_value.1 ∙ run-file wrote current file planned.told.current (same-chip _ _ planned.told.chips) _ enough)
