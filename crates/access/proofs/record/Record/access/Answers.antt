-- `access` meets its contract. Assumes nothing.
use mathlib.Core.Path.{sym, ap, ◌∙◌}
use borrow.Author.Tests.{not-true, not-false}
use Rattle.bits.proofs.Test.{passes}
use Rattle.file.specs.Effects.{apply}
use Rattle.access.specs.Access.{access, handed}
use Rattle.access.specs.declared.engine.Decision.{Decision}
use Rattle.access.specs.Engine.{decision}
use Rattle.access.proofs.Refusals.{unsound-answer, unsound-effect}
use Rattle.access.proofs.record.Record.access.Goals as goal

pub returns-then-not-is_sound : goal.returns-then-not-is_sound
unfolding access apply
returns-then-not-is_sound c =
    let start = c.args in
    let unsound = sym c.is_sound.ensures ∙ c.if-not-is_sound.true in
    c.handed_back.ensures
    ∙ (λ i. handed start.self (apply (sym (unsound-effect start.whole start.self unsound) i) start.whole) (sym (unsound-answer start.whole start.self unsound) i))

pub decide_in-decision-requires : goal.decide_in-decision-requires
decide_in-decision-requires c = passes _ (sym c.is_sound.ensures ∙ c.if-not-is_sound.false)

pub returns : goal.returns
unfolding access decision
returns c =
    let start = c.args in
    let decided = c.decide_in-decision.ensures in
    c.handed_back-2.ensures
    ∙ (λ i. handed start.self ((c.apply.ensures ∙ ap (λ (d : Decision). apply d.effect start.whole) decided) i) (decided i).answer)
