-- `plan_from` meets its contract. Assumes nothing.
use mathlib.Core.Path.{sym, ◌∙◌}
use Rattle.restoring.proofs.PromiseKept.{unsound-current, elsewhere, between}
use Rattle.restoring.proofs.plan_from.Goals as goal

pub returns-then-not-is_sound : goal.returns-then-not-is_sound
returns-then-not-is_sound c = unsound-current c.args.current c.args.wanted c.args.buffer.now (sym c.is_sound.ensures ∙ c.if-not-is_sound.true)

pub returns-then-not-on_one_chip : goal.returns-then-not-on_one_chip
returns-then-not-on_one_chip c =
    elsewhere c.args.current c.args.wanted c.args.buffer.now (sym c.is_sound.ensures ∙ c.if-not-is_sound.false)
    (sym c.on_one_chip.ensures ∙ c.if-not-on_one_chip.true) c.elsewhere.result c.elsewhere.ensures

pub returns : goal.returns
returns c =
    between c.args.current c.args.wanted c.args.buffer.now (sym c.is_sound.ensures ∙ c.if-not-is_sound.false)
    (sym c.on_one_chip.ensures ∙ c.if-not-on_one_chip.false) _ c.plan.ensures
