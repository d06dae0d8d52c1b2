-- `reply_bytes` meets its contract. Assumes nothing.
use Rattle.trace.specs.Records.{reply_bytes}
use borrow.Author.Rules.{rules}
use Rattle.trace.proofs.wire.reply_bytes.Goals as goal

pub returns : goal.returns
unfolding reply_bytes
returns c = search rules
