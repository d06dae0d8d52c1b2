-- `put_step` meets its contract. Assumes nothing.
use Rattle.plan.proofs.stages.put_step.Goals as goal

pub returns-then-reading : goal.returns-then-reading
returns-then-reading c = rw c.if-reading.true c.mmio_read.ensures

pub returns : goal.returns
returns c = rw c.if-reading.false c.mmio_write.ensures
