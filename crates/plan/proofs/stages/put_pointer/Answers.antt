-- `put_pointer` meets its contract. Assumes nothing.
use Rattle.plan.proofs.stages.put_pointer.Goals as goal

pub returns-then-pointer : goal.returns-then-pointer
returns-then-pointer c = rw c.if-pointer.true (rw c.from.ensures at c.mmio_write.ensures)

pub returns : goal.returns
returns c = rw c.if-pointer.false (rw c.from-2.ensures at c.mmio_write-2.ensures)
