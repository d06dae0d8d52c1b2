-- `record_bytes` meets its contract. Assumes nothing.
use Rattle.trace.specs.Records.{bytes_of}
use borrow.Author.Rules.{rules}
use Rattle.trace.proofs.wire.record_bytes.Goals as goal

pub returns : goal.returns
unfolding bytes_of
returns c = search rules
