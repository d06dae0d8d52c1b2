-- `Chip::v_port_shown` meets its contract: a case for each chip. Assumes nothing.
use Rattle.file.specs.Chips.{v_port_shown}
use Rattle.file.proofs.chip.Chip.v_port_shown.Goals as goal

pub returns-in-Gd5462 : goal.returns-in-Gd5462
unfolding v_port_shown
returns-in-Gd5462 c = rw c.in-Gd5462.is

pub returns-in-Gd5464 : goal.returns-in-Gd5464
unfolding v_port_shown
returns-in-Gd5464 c = rw c.in-Gd5464.is
