-- Turns lead to the course that `run_input` gives. Assumes nothing.
use Rattle.std.proofs.Common.{◌≡◌, ◌^◌, ◌<◌, take, sym, ap, ◌∙◌, arith}
use borrow.Author.Tests.{not-false, not-true}
use Rattle.file.specs.declared.chip.Chip.{Chip}
use Rattle.file.specs.File.{power_on}
use Rattle.file.specs.State.{initial}
use Rattle.shell.specs.declared.course.Course.{Course}
use Rattle.shell.specs.Parts.{beginning}
use Rattle.shell.proofs.Turns.{brought, came, came-unread, came-unwritten, coming-ended, coming-none, coming-on, more-sound, more-unfailed}
use Rattle.shell.proofs.course.run_input.Goals as goal

-- the loop begins on the chip that is chosen
begun : (chip : Chip) (r : Course) → r ≡ beginning chip → r.file.state.chip ≡ chip
unfolding beginning power_on initial
begun chip r e = ap (λ (x : Course). x.file.state.chip) e

pub loop-turn-init : goal.loop-turn-init
loop-turn-init g c = coming-none _ _ _ c.begin-course.ensures

pub returns-then-not-course : goal.returns-then-not-course
returns-then-not-course g c = rw (begun _ _ c.begin-course.ensures) at (came c.loop-turn.invariant (not-true _ c.if-not-course.true))

pub returns-then-has_failed : goal.returns-then-has_failed
returns-then-has_failed g c =
    let read = c.read_some-course.ensures in
    rw (begun _ _ c.begin-course.ensures) at (came-unread (take c.read_some-course.result.count c.read_some-course.new.trace) c.read_some-course.result _
    c.loop-turn.invariant
    (brought (not-false _ c.if-not-course.false) read.prefix_len.1 (read.count_bound, (read.all_value, read.number_bound)) c.has_failed.ensures c.if-has_failed.true)
    c.failed.ensures)

pub run_some-turn-requires-clause-t : goal.run_some-turn-requires-clause-t
run_some-turn-requires-clause-t g c =
    let led = c.loop-turn.invariant.led in
    more-sound led (more-unfailed led (not-false _ c.if-not-course.false))

pub returns-then-has_failed-2 : goal.returns-then-has_failed-2
returns-then-has_failed-2 g c =
    let read = c.read_some-course.ensures in
    rw (begun _ _ c.begin-course.ensures) at (came-unwritten c.read_some-course.result _ _ _ _ _ c.run_some-turn.result c.write_out-course.result
    c.loop-turn.invariant c.run_some-turn.ensures
    (brought (not-false _ c.if-not-course.false) read.prefix_len.1 (read.count_bound, (read.all_value, read.number_bound)) c.has_failed.ensures c.if-has_failed.false)
    c.write_out-course.ensures (sym c.has_failed-in-loop-turn.ensures ∙ c.if-has_failed-2.true) _ c.failed-then-has_failed-2.ensures)

pub loop-turn-preserved : goal.loop-turn-preserved
loop-turn-preserved g c =
    let read = c.read_some-course.ensures in
    let low : c.run_some-turn.result.course.number < 2 ^ 64 = omega (arith, c.run_some-turn.type_inv) in
    coming-on c.read_some-course.result _ _ _ _ _ c.run_some-turn.result c.write_out-course.result c.loop-turn.invariant c.run_some-turn.ensures
    (brought (not-false _ c.if-not-course.false) read.prefix_len.1 (read.count_bound, (read.all_value, read.number_bound)) c.has_failed.ensures c.if-has_failed.false)
    c.write_out-course.ensures (sym c.has_failed-in-loop-turn.ensures ∙ c.if-has_failed-2.false) low

pub returns : goal.returns
returns g c =
    rw (begun _ _ c.begin-course.ensures) at (came c.loop-turn.invariant (coming-ended (omega arith) c.loop-turn.invariant))
