-- `cells` meets its contract: a case for each chip. Assumes nothing.
use Rattle.places.proofs.decode.cells.Goals as goal

pub returns-in-Gd5462 : goal.returns-in-Gd5462
returns-in-Gd5462 c = rw c.in-Gd5462.is c.without_line.ensures

pub returns-in-Gd5464 : goal.returns-in-Gd5464
returns-in-Gd5464 c = rw c.in-Gd5464.is c.with_line.ensures
