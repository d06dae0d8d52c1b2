-- `steps::run_some` meets its contract: a part that was run is a step. Assumes nothing.
use mathlib.Core.Path.{sym}
use native.Mathlib.Omega.{arith}
use lib.Seq.{length-take-le}
use Rattle.job_replay.proofs.PartRun.{said-within, step-done}
use Rattle.job_replay.proofs.steps.run_some.Goals as goal

pub overflow_mul-size : goal.overflow_mul-size
overflow_mul-size c =
    let parted =
    c.run_part-ran.ensures.parted c.requires.t (omega (arith, c.requires.part_bound)) c.requires.part_in_bounds (omega (arith, c.requires.part_bound_2)) in
    omega (arith, parted.count, c.requires.part_bound)

pub slice_bounds-replies-end : goal.slice_bounds-replies-end
slice_bounds-replies-end c =
    let parted =
    c.run_part-ran.ensures.parted c.requires.t (omega (arith, c.requires.part_bound)) c.requires.part_in_bounds (omega (arith, c.requires.part_bound_2)) in
    said-within parted

pub slice_bounds-counting_replies-end : goal.slice_bounds-counting_replies-end
slice_bounds-counting_replies-end c =
    let parted =
    c.run_part-ran.ensures.parted c.requires.t (omega (arith, c.requires.part_bound)) c.requires.part_in_bounds (omega (arith, c.requires.part_bound_2)) in
    sym (length-take-le _ _ (said-within parted))

pub overflow_add-result : goal.overflow_add-result
overflow_add-result c =
    let parted =
    c.run_part-ran.ensures.parted c.requires.t (omega (arith, c.requires.part_bound)) c.requires.part_in_bounds (omega (arith, c.requires.part_bound_2)) in
    omega (arith, parted.count, c.requires.part_bound_2)

pub returns : goal.returns
returns c =
    let parted =
    c.run_part-ran.ensures.parted c.requires.t (omega (arith, c.requires.part_bound)) c.requires.part_in_bounds (omega (arith, c.requires.part_bound_2)) in
    step-done c.args.prints c.args.before c.args.part.now _ _ _ _ c.run_part-ran.result c.counting_replies-refusals.result parted
    c.counting_replies-refusals.ensures
