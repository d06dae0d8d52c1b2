-- `begin` starts from power-on. Assumes nothing.
use Rattle.shell.specs.Parts.{beginning}
use Rattle.shell.proofs.course.begin.Goals as goal

pub returns : goal.returns
unfolding beginning
returns c = cc (c.power_on.ensures, c.nothing_handed.ensures, c.nothing_read.ensures)
