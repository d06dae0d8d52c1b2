-- `explain::reach_in` meets its contract. Assumes nothing.
use Rattle.explaining.specs.Explained.{reach_in}
use Rattle.explaining.proofs.explain.reach_in.Goals as goal

pub returns-in-Whole : goal.returns-in-Whole
unfolding reach_in
returns-in-Whole c = rw (c.in-Whole.is, c.unwrap_or.ensures, c.reach.ensures, c.none.ensures)

pub returns-in-Fragment : goal.returns-in-Fragment
unfolding reach_in
returns-in-Fragment c = rw (c.in-Fragment.is, c.none-in-Fragment.ensures)
