-- `summary::moved_bits` meets its contract. Assumes nothing.
use Rattle.summing.specs.Summed.{moved_bits}
use Rattle.summing.proofs.summary.moved_bits.Goals as goal

pub returns : goal.returns
unfolding moved_bits
returns c = rw (c.register_of-2.ensures, c.register_of.ensures)
