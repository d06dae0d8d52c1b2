-- `closing::counted` meets its contract. Assumes nothing.
use Rattle.summing.specs.Closing.{counted}
use Rattle.summing.proofs.closing.counted.Goals as goal

pub returns : goal.returns
unfolding counted
returns c = rw (c.phrase.ensures, c.choose.ensures, c.decimal.ensures)
