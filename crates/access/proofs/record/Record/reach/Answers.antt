-- `reach` meets its contract. Assumes nothing.
use mathlib.Core.Path.{sym, ap, ◌∙◌}
use borrow.Author.Tests.{not-true, not-false}
use Rattle.std.specs.Prelude.{Ok}
use Rattle.bits.proofs.Test.{passes}
use Rattle.file.specs.Effects.{reach_of}
use Rattle.access.specs.Access.{reach, read_reach}
use Rattle.access.specs.declared.engine.Decision.{Decision}
use Rattle.access.specs.Engine.{decision}
use Rattle.access.proofs.record.Record.reach.Goals as goal

pub returns-then-not-is_sound : goal.returns-then-not-is_sound
unfolding read_reach
returns-then-not-is_sound c = rw (sym c.is_sound.ensures ∙ c.if-not-is_sound.true)

pub decide_in-decision-requires : goal.decide_in-decision-requires
decide_in-decision-requires c = passes _ (sym c.is_sound.ensures ∙ c.if-not-is_sound.false)

pub returns : goal.returns
unfolding read_reach reach decision
returns c =
    rw (sym c.is_sound.ensures ∙ c.if-not-is_sound.false)
    (ap Ok (c.reach.ensures ∙ ap (λ (d : Decision). reach_of d.effect) c.decide_in-decision.ensures))
