-- `together::moved_line` meets its contract. Assumes nothing.
use Rattle.summing.specs.Together.{moved_at, moved_line}
use Rattle.summing.proofs.together.moved_line.Goals as goal

pub returns : goal.returns
unfolding moved_line moved_at
returns c = rw (c.choose.ensures, c.blank.ensures, c.number_line.ensures)
