-- `explain::record_in` meets its contract. Assumes nothing.
use Rattle.access.specs.Access.{record_in}
use Rattle.explaining.proofs.explain.record_in.Goals as goal

pub returns-in-Whole : goal.returns-in-Whole
unfolding record_in
returns-in-Whole c = rw c.in-Whole.is

pub returns-in-Fragment : goal.returns-in-Fragment
unfolding record_in
returns-in-Fragment c = rw c.in-Fragment.is
