-- `put_toggle` meets its contract. Assumes nothing.
use Rattle.roads.specs.Roads.{by_half}
use Rattle.plan.proofs.stages.put_toggle.Goals as goal

pub returns-then-toggle : goal.returns-then-toggle
returns-then-toggle c = rw c.if-toggle.true c.port_read.ensures

pub returns : goal.returns
unfolding by_half
returns c = rw c.if-toggle.false (rw c.by_half.ensures at c.port_read-2.ensures)
