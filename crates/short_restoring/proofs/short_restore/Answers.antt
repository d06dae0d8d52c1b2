-- `short_restore` meets its contract. Assumes nothing.
use Prim.Native.Nat.{◌*◌, ◌≤◌}
use mathlib.Core.Path.{sym, ◌∙◌}
use native.Mathlib.Omega.{arith}
use lib.Seq.{length-take-le}
use Rattle.plan.proofs.FileIsFile.{is-file}
use Rattle.short_restoring.proofs.ShortPromiseKept.{could, short-done}
use Rattle.short_restoring.proofs.ShortRunEnds.{short-room, short-few, short-run-file}
use Rattle.short_restoring.proofs.short_restore.Goals as goal

pub overflow_mul-count : goal.overflow_mul-count
overflow_mul-count c = omega (arith, short-few c.in-Ok.ensures.told (is-file c.args.saved _ c.well_formed.1.0))

pub slice_bounds-run-end : goal.slice_bounds-run-end
slice_bounds-run-end c = short-room c.in-Ok.ensures.told

pub slice_bounds-run-end-in-Ok : goal.slice_bounds-run-end-in-Ok
slice_bounds-run-end-in-Ok c = sym (length-take-le _ _ (short-room c.in-Ok.ensures.told))

pub returns-in-Ok : goal.returns-in-Ok
returns-in-Ok c =
    let planned = c.in-Ok.ensures in
    let wrote = planned.told in
    let current = c.args.current in
    let enough : 8 * c.in-Ok.count ≤ 8192 = omega (arith, short-few wrote (is-file c.args.saved _ c.well_formed.1.0)) in
    short-done planned (is-file current _ c.well_formed.0) c.run-ran.result.file
    (c.run-ran.ensures.answer_value.1 ∙ short-run-file wrote current (could planned).current _ enough)
    c.nothing.result c.nothing.ensures
