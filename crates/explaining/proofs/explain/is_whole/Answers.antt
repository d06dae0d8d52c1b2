-- `explain::is_whole` meets its contract. Assumes nothing.
use Rattle.explaining.specs.Explained.{is_whole}
use Rattle.explaining.proofs.explain.is_whole.Goals as goal

pub returns-in-Whole : goal.returns-in-Whole
unfolding is_whole
returns-in-Whole c = rw c.in-Whole.is

pub returns-in-Fragment : goal.returns-in-Fragment
unfolding is_whole
returns-in-Fragment c = rw c.in-Fragment.is
