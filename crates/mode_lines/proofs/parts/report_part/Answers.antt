use native.Mathlib.Omega.{arith}
use borrow.Author.Tests.{ltb-true, ltb-false}
use lib.ListN.{length, length-drop}
use Rattle.mode_lines.specs.Parts.{last_number}
use Rattle.mode_lines.proofs.Going.{going-none, going_on, going-far, going-room, lines-ended, part-ended, rest_all}
use Rattle.mode_lines.proofs.parts.report_part.Goals as goal

pub loop-done-init : goal.loop-done-init
unfolding last_number
loop-done-init c =
    let args = c.args in
    going-none args.file args.number args.count args.part.now args.kept.now args.reports.now c.last_number-last.result (omega arith)

pub slice_bounds-report_next-count : goal.slice_bounds-report_next-count
slice_bounds-report_next-count c = omega arith

pub report_next-done-requires : goal.report_next-done-requires
unfolding last_number
report_next-done-requires c =
    let args = c.args in
    let here = c.loop-done in
    let room = going-room args.file args.number args.count args.part.now args.kept.now args.reports.now c.last_number-last.result here.invariant (omega (arith, c.last_number-last.ensures)) c.loop-done-test.true in record {
      part_bound = rw (rest_all args.part.now here.done.used) (omega (arith, length-drop here.done.used args.part.now));
      number_bound = omega (arith, c.last_number-last.ensures);
      end_in_bounds = room;
    }

pub loop-done-smaller : goal.loop-done-smaller
unfolding last_number
loop-done-smaller c =
    let args = c.args in
    let here = c.loop-done in
    let next = rw (rest_all args.part.now here.done.used) at c.report_next-done.ensures in
    omega (arith, going-far args.file args.number args.count args.part.now args.kept.now args.reports.now c.last_number-last.result here.invariant c.loop-done-test.true (ltb-true here.done.used (length args.part.now) c.if-done-part.true-raw) _ _ c.report_next-done.result next, ltb-true here.done.used (length args.part.now) c.if-done-part.true-raw)

pub loop-done-preserved : goal.loop-done-preserved
unfolding last_number
loop-done-preserved c =
    let args = c.args in
    let here = c.loop-done in
    let next = rw (rest_all args.part.now here.done.used) at c.report_next-done.ensures in
    going_on args.file args.number args.count args.part.now args.kept.now args.reports.now c.last_number-last.result here.invariant c.loop-done-test.true (ltb-true here.done.used (length args.part.now) c.if-done-part.true-raw) _ _ c.report_next-done.result next
    (going-room args.file args.number args.count args.part.now args.kept.now args.reports.now c.last_number-last.result here.invariant (omega (arith, c.last_number-last.ensures)) c.loop-done-test.true)

pub shape_of-kept-else-done-part : goal.shape_of-kept-else-done-part
shape_of-kept-else-done-part c = c.loop-done.invariant.long

pub shape_of-reports-else-done-part : goal.shape_of-reports-else-done-part
shape_of-reports-else-done-part c = c.loop-done.invariant.wide

pub returns-else-done-part : goal.returns-else-done-part
returns-else-done-part c = record {
  part_reported = (let args = c.args in
      part-ended args.file args.number args.count args.part.now args.kept.now args.reports.now c.last_number-last.result c.loop-done.invariant (ltb-false c.loop-done.done.used (length args.part.now) c.if-done-part.false-raw) c.last_number-last.ensures).0;
  prefix_len = (let args = c.args in
      part-ended args.file args.number args.count args.part.now args.kept.now args.reports.now c.last_number-last.result c.loop-done.invariant (ltb-false c.loop-done.done.used (length args.part.now) c.if-done-part.false-raw) c.last_number-last.ensures).1.0;
  used_in_bounds = (let args = c.args in
      part-ended args.file args.number args.count args.part.now args.kept.now args.reports.now c.last_number-last.result c.loop-done.invariant (ltb-false c.loop-done.done.used (length args.part.now) c.if-done-part.false-raw) c.last_number-last.ensures).1.1;
}

pub shape_of-kept-after-loop-done : goal.shape_of-kept-after-loop-done
shape_of-kept-after-loop-done c = c.loop-done.invariant.long

pub shape_of-reports-after-loop-done : goal.shape_of-reports-after-loop-done
shape_of-reports-after-loop-done c = c.loop-done.invariant.wide

pub returns-after-loop-done : goal.returns-after-loop-done
returns-after-loop-done c = record {
  part_reported = (let args = c.args in
      lines-ended args.file args.number args.count args.part.now args.kept.now args.reports.now c.last_number-last.result c.loop-done.invariant c.loop-done-test.false c.last_number-last.ensures).0;
  prefix_len = (let args = c.args in
      lines-ended args.file args.number args.count args.part.now args.kept.now args.reports.now c.last_number-last.result c.loop-done.invariant c.loop-done-test.false c.last_number-last.ensures).1.0;
  used_in_bounds = (let args = c.args in
      lines-ended args.file args.number args.count args.part.now args.kept.now args.reports.now c.last_number-last.result c.loop-done.invariant c.loop-done-test.false c.last_number-last.ensures).1.1;
}
