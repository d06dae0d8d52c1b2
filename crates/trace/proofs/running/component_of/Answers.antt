-- `component_of` meets its contract. Assumes nothing.
use Rattle.trace.proofs.running.component_of.Goals as goal

pub returns-then-bank : goal.returns-then-bank
returns-then-bank c = rw c.if-bank.true c.component.ensures

pub returns-else-bank : goal.returns-else-bank
returns-else-bank c = rw c.if-bank.false c.component-else-bank.ensures
