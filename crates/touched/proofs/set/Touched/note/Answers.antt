-- `note` meets its contract. Assumes nothing.
use Rattle.touched.specs.Noted.{noted}
use Rattle.touched.proofs.set.Touched.note.Goals as goal

pub returns : goal.returns
unfolding noted
returns c = rw (c.also.ensures, c.also-2.ensures, c.also-3.ensures)
