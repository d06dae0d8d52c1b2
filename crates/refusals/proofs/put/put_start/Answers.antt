-- `put::put_start` meets its contract. Assumes nothing.
use Rattle.file.specs.Readers.{ascii}
use Rattle.refusals.specs.Said.{start_text}
use Rattle.refusals.proofs.put.put_start.Goals as goal

pub returns-then-first : goal.returns-then-first
unfolding start_text ascii
returns-then-first c = rw c.if-first.true (c.put_behind.ensures.stored (rw c.if-first.true at c.requires))

pub returns : goal.returns
unfolding start_text ascii
returns c = rw c.if-first.false (c.put_behind-2.ensures.stored (rw c.if-first.false at c.requires))
