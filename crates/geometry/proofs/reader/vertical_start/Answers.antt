-- `reader::vertical_start` meets its contract. Assumes nothing.
use Rattle.geometry.specs.Geometry.{vertical_start}
use Rattle.geometry.proofs.reader.vertical_start.Goals as goal

pub returns-in-Gd5462 : goal.returns-in-Gd5462
unfolding vertical_start
returns-in-Gd5462 c = rw c.in-Gd5462.is

pub returns-in-Gd5464 : goal.returns-in-Gd5464
unfolding vertical_start
returns-in-Gd5464 c = rw c.in-Gd5464.is
