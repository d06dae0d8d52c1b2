-- `record_of` meets its contract. Assumes nothing.
use Rattle.trace.proofs.RecordBytes.{record-read}
use Rattle.trace.proofs.wire.record_of.Goals as goal

pub returns : goal.returns
returns c =
    record-read c.args.bytes.now c.byte_at-7.ensures c.byte_at-8.ensures c.byte_at.ensures c.byte_at-2.ensures
    c.byte_at-3.ensures c.byte_at-4.ensures c.byte_at-5.ensures c.byte_at-6.ensures c.two-address.ensures c.four-value.ensures
