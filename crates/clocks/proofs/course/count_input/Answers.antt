-- Turns lead to the course that `count_input` gives. Assumes nothing.
use Rattle.std.proofs.Common.{◌≡◌, ◌+◌, ◌-◌, ◌<◌, take, sym, ◌∙◌, arith}
use Rattle.clocks.proofs.Coming.{brought, came-last, came-stopped, came-unread, came-unwritten, coming-countable, coming-none, coming-on}
use Rattle.clocks.proofs.course.count_input.Goals.{else-loop-test, then-loop-test+then-not-has_more}
use Rattle.clocks.proofs.course.count_input.Goals as goal

pub loop-init : goal.loop-init
loop-init g c = coming-none _ c.begin-course.ensures

pub returns-then-has_failed : goal.returns-then-has_failed
returns-then-has_failed g c =
    let read = c.read_some-course.ensures in
    came-unread (take c.read_some-course.result.count c.read_some-course.new.input) c.read_some-course.result _ c.loop.invariant
    (brought (sym c.has_more.ensures ∙ c.if-not-has_more.false) read.prefix_len.1 (read.count_bound, read.all_value) c.has_failed.ensures c.if-has_failed.true) c.failed.ensures

pub count_some-turn-requires-clause-countable : goal.count_some-turn-requires-clause-countable
count_some-turn-requires-clause-countable g c =
    let some : 0 < 9007199254740991 - c.loop.counter = omega arith in
    coming-countable c.loop.invariant some

pub returns-then-has_failed-2 : goal.returns-then-has_failed-2
returns-then-has_failed-2 g c =
    let read = c.read_some-course.ensures in
    came-unwritten c.read_some-course.result _ _ _ c.count_some-turn.result c.write_out-course.result c.loop.invariant c.count_some-turn.ensures
    (brought (sym c.has_more.ensures ∙ c.if-not-has_more.false) read.prefix_len.1 (read.count_bound, read.all_value) c.has_failed.ensures c.if-has_failed.false)
    c.write_out-course.ensures (sym c.has_failed-in-loop.ensures ∙ c.if-has_failed-2.true) _ c.failed-then-has_failed-2.ensures

pub loop-preserved : goal.loop-preserved
loop-preserved g c =
    let read = c.read_some-course.ensures in
    let some : 0 < 9007199254740991 - c.loop.counter = omega arith in
    let less : 9007199254740991 - (c.loop.counter + 1) ≡ 9007199254740991 - c.loop.counter - 1 = omega arith in
    rw less
    (coming-on c.read_some-course.result _ _ _ c.count_some-turn.result c.write_out-course.result c.loop.invariant c.count_some-turn.ensures
    (brought (sym c.has_more.ensures ∙ c.if-not-has_more.false) read.prefix_len.1 (read.count_bound, read.all_value) c.has_failed.ensures c.if-has_failed.false)
    c.write_out-course.ensures (sym c.has_failed-in-loop.ensures ∙ c.if-has_failed-2.false) some)

pub returns : goal.returns
returns g c =
    elim c.loop-test.branch [
      | else-loop-test w ↦
          (let none : 9007199254740991 - c.loop.counter ≡ 0 = omega arith in
          came-last (rw none at c.loop.invariant) _ c.over.ensures)
      | then-loop-test+then-not-has_more w ↦ came-stopped c.loop.invariant (sym w.has_more.ensures ∙ w.if-not-has_more.true) _ c.over.ensures
    ]
