-- `bits::store` meets its contract: the code is the rule's own expression. Assumes nothing.
use Rattle.std.proofs.Common.{rules}
use Rattle.bits.specs.Store.{store}
use Rattle.bits.proofs.store.Goals as goal

pub returns : goal.returns
unfolding store
returns c = search rules
