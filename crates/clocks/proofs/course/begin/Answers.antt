-- `begin` starts with nothing counted. Assumes nothing.
use Rattle.clocks.specs.Turns.{beginning}
use Rattle.clocks.proofs.course.begin.Goals as goal

pub returns : goal.returns
unfolding beginning
returns c = cc (c.nothing_handed.ensures, c.nothing_read.ensures, c.none.ensures)
