-- `access_item` meets its contract. Assumes nothing.
use mathlib.Core.Path.{sym, ◌∙◌}
use Rattle.access.specs.Access.{access, access_item}
use Rattle.plain.specs.Told.{access_told, item_told}
use Rattle.plain.proofs.accessing.access_item.Goals as goal

pub returns-in-Whole : goal.returns-in-Whole
unfolding item_told access_told access_item access
returns-in-Whole c = rw c.in-Whole.is c.access.ensures

pub returns-then-is_sound : goal.returns-then-is_sound
unfolding item_told access_item
returns-then-is_sound c = rw (c.in-Fragment.is, sym c.is_sound.ensures ∙ c.if-is_sound.true) c.leaving.ensures

pub returns-else-is_sound : goal.returns-else-is_sound
unfolding item_told access_item
returns-else-is_sound c = rw (c.in-Fragment.is, sym c.is_sound.ensures ∙ c.if-is_sound.false) c.leaving-else-is_sound.ensures
