-- `summary::take_in` meets its contract. Assumes nothing.
use Rattle.summing.specs.Summed.{taken_in}
use Rattle.summing.proofs.summary.take_in.Goals as goal

pub returns : goal.returns
unfolding taken_in
returns c = rw (c.ended.ensures, c.numbers_in.ensures, c.coded-summary.ensures, c.code.ensures, c.reached-summary.ensures, c.moved_bits-moved.ensures, c.reach_in-reach.ensures, c.access-accessed.ensures)
