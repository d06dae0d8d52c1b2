-- `summary::begin` meets its contract. Assumes nothing.
use Rattle.summing.specs.Summed.{begun}
use Rattle.summing.proofs.summary.begin.Goals as goal

pub returns : goal.returns
unfolding begun
returns c = rw c.numbers_in-numbers.ensures
