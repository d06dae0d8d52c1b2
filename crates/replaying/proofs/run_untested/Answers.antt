-- `run_untested` runs the whole of a part and gives its lines, if they are asked for. Assumes nothing.
use Rattle.std.proofs.Common.{sym, arith, length-take-le}
use Rattle.replaying.proofs.PartRuns.{part-printed, part-unprinted, ran-printed, ran-unprinted, within}
use Rattle.replaying.proofs.run_untested.Goals as goal

pub returns-then-not-prints : goal.returns-then-not-prints
returns-then-not-prints c =
    let args = c.args in
    let ran = c.run_by-ran in
    let same = ran.ensures.answer_value in
    let filled = ran.ensures.replies_after in record {
      parted = λ good room wide low. rw c.if-not-prints.true
          (part-unprinted args.before args.number args.trace.now args.replies.now args.lines.now good room low ran.result ran.new.replies same filled);
      ran = rw c.if-not-prints.true
          (ran-unprinted args.before args.number args.trace.now args.replies.now args.lines.now ran.result ran.new.replies same filled);
    }

pub overflow_mul-size : goal.overflow_mul-size
overflow_mul-size c =
    let args = c.args in
    let ran = c.run_by-ran in
    omega (
      arith,
      within args.before args.number args.trace.now args.replies.now args.lines.now ran.result ran.new.replies ran.ensures.answer_value
          ran.ensures.replies_after,
      ran.auto.replies,
      c.well_formed.1.1.1.1.1.0.0,
    )

pub slice_bounds-reply_lines-end : goal.slice_bounds-reply_lines-end
slice_bounds-reply_lines-end c =
    let args = c.args in
    let ran = c.run_by-ran in
    within args.before args.number args.trace.now args.replies.now args.lines.now ran.result ran.new.replies ran.ensures.answer_value
    ran.ensures.replies_after

pub slice_bounds-reply_lines-end-2 : goal.slice_bounds-reply_lines-end-2
slice_bounds-reply_lines-end-2 c =
    let args = c.args in
    let ran = c.run_by-ran in
    let all =
    within args.before args.number args.trace.now args.replies.now args.lines.now ran.result ran.new.replies ran.ensures.answer_value
    ran.ensures.replies_after in
    sym (length-take-le _ _ all)

pub returns : goal.returns
returns c =
    let args = c.args in
    let ran = c.run_by-ran in
    let same = ran.ensures.answer_value in
    let filled = ran.ensures.replies_after in
    let lined = c.reply_lines-printed.ensures in record {
      parted = λ good room wide low. rw c.if-not-prints.false
          (part-printed args.before args.number args.trace.now args.replies.now args.lines.now good room low ran.result ran.new.replies same filled
          (wide c.if-not-prints.false) _ _ lined);
      ran = rw c.if-not-prints.false
          (ran-printed args.before args.number args.trace.now args.replies.now args.lines.now ran.result ran.new.replies same filled _ _ lined);
    }
