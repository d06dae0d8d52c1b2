-- `four_at` meets its contract. Assumes nothing.
use Rattle.trace.specs.Records.{four}
use Rattle.trace.proofs.wire.four_at.Goals as goal

pub returns : goal.returns
unfolding four
returns c = c.four.ensures
