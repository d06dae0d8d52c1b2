-- `item_count` meets its contract. Assumes nothing.
use borrow.Author.Rules.{rules}
use Rattle.trace.specs.Records.{item_count}
use Rattle.replaying.proofs.item_count.Goals as goal

pub returns : goal.returns
unfolding item_count
returns c = search rules
