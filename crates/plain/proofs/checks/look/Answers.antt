-- `look` meets its contract. Assumes nothing.
use mathlib.Core.Path.{sym, ◌∙◌}
use Rattle.access.specs.Checks.{malformed}
use Rattle.plain.specs.Looked.{looked_over}
use Rattle.plain.proofs.SeenWhole.{space_seen}
use Rattle.plain.proofs.checks.look.Goals as goal

pub returns-then-not-is_sound : goal.returns-then-not-is_sound
unfolding looked_over
returns-then-not-is_sound c = rw (sym c.is_sound.ensures ∙ c.if-not-is_sound.true)

pub returns-then-is_malformed : goal.returns-then-is_malformed
unfolding looked_over malformed
returns-then-is_malformed c = rw (sym c.is_sound.ensures ∙ c.if-not-is_sound.false, sym c.is_malformed.ensures ∙ c.if-is_malformed.true)

pub returns-then-is_space_off : goal.returns-then-is_space_off
unfolding looked_over malformed
returns-then-is_space_off c =
    rw (
      sym c.is_sound.ensures ∙ c.if-not-is_sound.false,
      sym c.is_malformed.ensures ∙ c.if-is_malformed.false,
      sym (c.is_space_off.ensures ∙ space_seen c.args.whole c.args.asked) ∙ c.if-is_space_off.true,
    )

pub returns : goal.returns
unfolding looked_over malformed
returns c =
    rw (
      sym c.is_sound.ensures ∙ c.if-not-is_sound.false,
      sym c.is_malformed.ensures ∙ c.if-is_malformed.false,
      sym (c.is_space_off.ensures ∙ space_seen c.args.whole c.args.asked) ∙ c.if-is_space_off.false,
      ← c.find.ensures,
    )
    c.look_at.ensures
