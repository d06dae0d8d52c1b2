-- `set_after` meets its contract. Assumes nothing.
use mathlib.Core.Path.{sym, ◌∙◌}
use Rattle.image.specs.Image.{set_kept, set_part}
use Rattle.image.proofs.saving.set_after.Goals as goal

pub returns-then-is_set : goal.returns-then-is_set
unfolding set_kept set_part
returns-then-is_set c = rw (sym c.is_set.ensures ∙ c.if-is_set.true) c.copy_from_slice.ensures.after

pub returns-else-is_set : goal.returns-else-is_set
unfolding set_kept
returns-else-is_set c = rw (sym c.is_set.ensures ∙ c.if-is_set.false)
