-- `entry_number` meets its contract. Assumes nothing.
use Rattle.access.proofs.engine.entry_number.Goals as goal

pub returns-then-bank : goal.returns-then-bank
returns-then-bank c = rw c.if-bank.true
