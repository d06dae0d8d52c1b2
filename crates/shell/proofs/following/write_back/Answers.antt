-- `write_back` writes no more of its buffer than the short plan fills. Assumes nothing.
use Rattle.std.proofs.Common.{arith}
use Rattle.plan.proofs.FileIsFile.{is-file}
use Rattle.shell.proofs.Bounds.{counts, short-within}
use Rattle.shell.proofs.following.write_back.Goals as goal

pub overflow_mul-buffer : goal.overflow_mul-buffer
overflow_mul-buffer g c = omega (arith, short-within _ _ _ _ _ _ c.in-Ok.ensures (is-file c.args.saved _ c.well_formed.1.1.0))

pub slice_bounds-buffer-end : goal.slice_bounds-buffer-end
slice_bounds-buffer-end g c =
    omega (arith, short-within _ _ _ _ _ _ c.in-Ok.ensures (is-file c.args.saved _ c.well_formed.1.1.0), c.short_plan.auto.buffer)

pub slice_bounds-write_out-end-in-Ok : goal.slice_bounds-write_out-end-in-Ok
slice_bounds-write_out-end-in-Ok g c =
    (counts _ _ (omega (arith, short-within _ _ _ _ _ _ c.in-Ok.ensures (is-file c.args.saved _ c.well_formed.1.1.0), c.short_plan.auto.buffer))).1
