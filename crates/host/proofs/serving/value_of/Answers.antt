-- `value_of` meets its contract. Assumes nothing.
use Rattle.host.proofs.serving.value_of.Goals as goal

pub returns-then-served : goal.returns-then-served
returns-then-served c = rw c.if-served.true c.shown.ensures

pub returns : goal.returns
returns c = rw c.if-served.false
