-- `kept_set` meets its contract. Assumes nothing.
use Rattle.image.specs.Image.{kept_set}
use Rattle.image.proofs.saving.kept_set.Goals as goal

pub returns-then-kept : goal.returns-then-kept
unfolding kept_set
returns-then-kept c = rw c.if-kept.true

pub returns-else-kept : goal.returns-else-kept
unfolding kept_set
returns-else-kept c = rw c.if-kept.false
