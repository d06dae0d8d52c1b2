-- `next_at` meets its contract. Assumes nothing.
use Rattle.reader.proofs.Positions.{next-read, end_read}
use Rattle.reader.proofs.reader.next_at.Goals as goal

pub returns-then-at-trace : goal.returns-then-at-trace
returns-then-at-trace c = next-read c.args.trace.now c.args.at _ c.if-at-trace.true c.item_of.ensures

pub returns-else-at-trace : goal.returns-else-at-trace
returns-else-at-trace c = end_read c.args.trace.now c.args.at c.if-at-trace.false
