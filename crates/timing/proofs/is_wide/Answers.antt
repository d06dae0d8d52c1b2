-- `timing::is_wide` meets its contract: either bit is enough. Assumes nothing.
use Rattle.timing.proofs.is_wide.Goals as goal

pub returns-then-is_set : goal.returns-then-is_set
returns-then-is_set c = rw (← c.is_set.ensures, c.if-is_set.true)

pub returns-else-is_set : goal.returns-else-is_set
returns-else-is_set c = rw (← c.is_set.ensures, c.if-is_set.false) c.is_set-else-is_set.ensures
