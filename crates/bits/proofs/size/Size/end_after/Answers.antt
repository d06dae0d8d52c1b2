-- `Size::end_after` meets its contract: the definition's own sum, below 2^34. Assumes nothing.
use Rattle.bits.specs.Numbers.{end_after}
use Rattle.bits.proofs.size.Size.end_after.Goals as goal

pub returns : goal.returns
unfolding end_after
returns c = rw (c.low-2.ensures, c.low.ensures, c.power.ensures, c.from.ensures, c.from-next.ensures)
