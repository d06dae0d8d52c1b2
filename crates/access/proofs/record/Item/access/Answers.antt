-- `Item::access` meets its contract. Assumes nothing.
use mathlib.Core.Path.{sym, ◌∙◌}
use Rattle.access.specs.Access.{access_item}
use Rattle.access.proofs.record.Item.access.Goals as goal

pub returns-in-Whole : goal.returns-in-Whole
unfolding access_item
returns-in-Whole c = rw c.in-Whole.is c.access.ensures

pub returns-then-is_sound : goal.returns-then-is_sound
unfolding access_item
returns-then-is_sound c =
    rw (c.in-Fragment.is, sym c.is_sound.ensures ∙ c.if-is_sound.true)
    c.handed_back.ensures

pub returns-else-is_sound : goal.returns-else-is_sound
unfolding access_item
returns-else-is_sound c =
    rw (c.in-Fragment.is, sym c.is_sound.ensures ∙ c.if-is_sound.false)
    c.handed_back-else-is_sound.ensures
