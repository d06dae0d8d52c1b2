-- Turns lead to the course that `tell_input` gives. Assumes nothing.
use Rattle.std.proofs.Common.{◌≡◌, ◌+◌, ◌-◌, take, sym, ap, ◌∙◌, arith}
use Rattle.file.specs.declared.chip.Chip.{Chip}
use Rattle.file.specs.File.{power_on}
use Rattle.file.specs.State.{initial}
use Rattle.explain.specs.declared.course.Course.{Course}
use Rattle.explain.specs.Turns.{beginning}
use Rattle.explain.proofs.Coming.{brought, came-last, came-stopped, came-unread, came-unwritten, coming-none, coming-on}
use Rattle.explain.proofs.course.tell_input.Goals as goal

-- the loop begins on the chip that is chosen
begun : (chip : Chip) (r : Course) → r ≡ beginning chip → r.file.state.chip ≡ chip
unfolding beginning power_on initial
begun chip r e = ap (λ (x : Course). x.file.state.chip) e

pub loop-init : goal.loop-init
loop-init g c = coming-none _ _ _ c.begin-course.ensures

pub returns-then-not-has_more : goal.returns-then-not-has_more
returns-then-not-has_more g c =
    rw (begun _ _ c.begin-course.ensures) at (came-stopped c.loop.invariant (sym c.has_more.ensures ∙ c.if-not-has_more.true))

pub returns-then-has_failed : goal.returns-then-has_failed
returns-then-has_failed g c =
    let read = c.read_record-read.ensures in
    rw (begun _ _ c.begin-course.ensures) at (came-unread (take c.read_record-read.result.count c.read_record-read.new.bytes) c.read_record-read.result _
    c.loop.invariant
    (brought (sym c.has_more.ensures ∙ c.if-not-has_more.false) read.prefix_len.1 (read.count_bound, read.all_value) c.has_failed.ensures c.if-has_failed.true) c.failed.ensures)

pub returns-then-has_failed-2 : goal.returns-then-has_failed-2
returns-then-has_failed-2 g c =
    let read = c.read_record-read.ensures in
    rw (begun _ _ c.begin-course.ensures) at (came-unwritten c.read_record-read.result _ _ _ c.tell_some-turn.result c.write_out-handed.result
    c.loop.invariant c.tell_some-turn.ensures
    (brought (sym c.has_more.ensures ∙ c.if-not-has_more.false) read.prefix_len.1 (read.count_bound, read.all_value) c.has_failed.ensures c.if-has_failed.false)
    c.write_out-handed.ensures (sym c.has_failed-in-loop.ensures ∙ c.if-has_failed-2.true) _ c.failed-then-has_failed-2.ensures)

pub loop-preserved : goal.loop-preserved
loop-preserved g c =
    let read = c.read_record-read.ensures in
    let down : 18446744073709551615 - (c.loop.counter + 1) ≡ 18446744073709551615 - c.loop.counter - 1 = omega arith in
    rw down (
    coming-on c.read_record-read.result _ _ _ c.tell_some-turn.result c.write_out-handed.result c.loop.invariant c.tell_some-turn.ensures
    (brought (sym c.has_more.ensures ∙ c.if-not-has_more.false) read.prefix_len.1 (read.count_bound, read.all_value) c.has_failed.ensures c.if-has_failed.false)
    c.write_out-handed.ensures (sym c.has_failed-in-loop.ensures ∙ c.if-has_failed-2.false) (omega arith))

pub returns : goal.returns
returns g c =
    let none : 18446744073709551615 - c.loop.counter ≡ 0 = omega arith in
    rw (begun _ _ c.begin-course.ensures) at (came-last (rw none at c.loop.invariant) _ c.over.ensures)
