-- `item_of` meets its contract. Assumes nothing.
use Rattle.trace.proofs.RecordBytes.{whole-read, fragment-read}
use Rattle.trace.proofs.wire.item_of.Goals as goal

pub returns-then-bytes-lt8 : goal.returns-then-bytes-lt8
returns-then-bytes-lt8 c = fragment-read c.args.bytes.now _ c.record_of-record.ensures c.if-bytes-lt8.true

pub returns-else-bytes-lt8 : goal.returns-else-bytes-lt8
returns-else-bytes-lt8 c = whole-read c.args.bytes.now _ c.record_of-record.ensures c.if-bytes-lt8.false
