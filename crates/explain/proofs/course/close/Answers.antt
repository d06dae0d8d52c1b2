-- `close` writes the summary, where one is kept and nothing failed. Assumes nothing.
use mathlib.Core.Path.{sym, ap, ◌∙◌}
use Rattle.shell.specs.Parts.{counted}
use Rattle.explain.specs.Turns.Closed.{failed, plain}
use Rattle.explain.proofs.TurnsTold.{closed-unwritten, closed-written}
use Rattle.explain.proofs.course.close.Goals as goal

pub returns-then-has_failed : goal.returns-then-has_failed
returns-then-has_failed g c = failed (sym c.has_failed.ensures ∙ c.if-has_failed.true)

pub returns-then-not-sums : goal.returns-then-not-sums
returns-then-not-sums g c = plain (sym c.has_failed.ensures ∙ c.if-has_failed.false) c.if-not-sums.true

pub returns-then-has_failed-2 : goal.returns-then-has_failed-2
returns-then-has_failed-2 g c =
    let all = c.write_out-handed.ensures ∙ ap (counted c.args.before.handed.all) (sym c.summary_end-end.ensures.prefix_len.1 ∙ c.summary_end-end.ensures.value) in
    closed-unwritten c.write_out-handed.result (sym c.has_failed.ensures ∙ c.if-has_failed.false) c.if-not-sums.false all
    (sym c.has_failed-2.ensures ∙ c.if-has_failed-2.true) _ c.failed.ensures

pub returns : goal.returns
returns g c =
    let all = c.write_out-handed.ensures ∙ ap (counted c.args.before.handed.all) (sym c.summary_end-end.ensures.prefix_len.1 ∙ c.summary_end-end.ensures.value) in
    closed-written c.write_out-handed.result (sym c.has_failed.ensures ∙ c.if-has_failed.false) c.if-not-sums.false all
    (sym c.has_failed-2.ensures ∙ c.if-has_failed-2.false)
