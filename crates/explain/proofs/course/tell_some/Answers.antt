-- `tell_some` tells a record: a turn. Assumes nothing.
use mathlib.Core.Path.{ap}
use native.Mathlib.Omega.{arith}
use Rattle.access.specs.declared.access.Accessed.{Accessed}
use Rattle.explain.proofs.TurnsTold.{turn-none, turn_one}
use Rattle.explain.proofs.course.tell_some.Goals as goal

pub returns-then-bytes-eq0 : goal.returns-then-bytes-eq0
returns-then-bytes-eq0 c =
    rw c.going_behind-course.ensures (turn-none c.args.sums c.args.before c.args.bytes.now c.args.lines.now (omega (arith, c.if-bytes-eq0.true)))

pub overflow_add-course : goal.overflow_add-course
overflow_add-course c = omega (arith, c.requires.number_bound)

pub returns : goal.returns
returns c =
    turn_one c.args.sums c.args.before c.args.bytes.now c.args.lines.now c.if-bytes-eq0.false c.requires.bytes_len_bound
    c.item_of-item.result c.item_of-item.ensures _ _ c.told_end-end.ensures.value c.told_end-end.ensures.lines_after _
    (ap (λ (r : Accessed). r.file) c.access-accessed.ensures) _ c.record_summed-summary.ensures _ c.going_behind-course.ensures
