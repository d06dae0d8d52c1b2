-- `explain::numbers_in` meets its contract. Assumes nothing.
use Rattle.explaining.specs.Moves.{numbers_in}
use Rattle.explaining.proofs.explain.numbers_in.Goals as goal

pub returns : goal.returns
unfolding numbers_in
returns c = rw (c.numbers.ensures, c.read_timing-read.ensures)
