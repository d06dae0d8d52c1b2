use Rattle.paper.specs.Examples.{started}
use Rattle.paper.proofs.opened.Goals as goal

-- src/lib.rt:25:18
-- src/lib.rt:25:5
-- src/lib.rt:22:1
pub returns : goal.returns
unfolding started
returns c = cc (c.set_register.ensures, c.power_on.ensures)
