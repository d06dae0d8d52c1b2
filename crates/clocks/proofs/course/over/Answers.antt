-- `over` fails where there is more to read. Assumes nothing.
use mathlib.Core.Bool.{Bool, cond}
use mathlib.Core.Path.{sym, ap, ◌∙◌}
use Rattle.clocks.specs.Turns.{failed_after, over_after}
use Rattle.clocks.proofs.course.over.Goals as goal

pub returns-then-has_more : goal.returns-then-has_more
unfolding over_after
returns-then-has_more g c =
    let before = c.args.before in
    c.failed.ensures ∙ sym (ap (λ (b : Bool). cond b (failed_after before) before) (sym c.has_more.ensures ∙ c.if-has_more.true))

pub returns : goal.returns
unfolding over_after
returns g c =
    let before = c.args.before in
    sym (ap (λ (b : Bool). cond b (failed_after before) before) (sym c.has_more.ensures ∙ c.if-has_more.false))
