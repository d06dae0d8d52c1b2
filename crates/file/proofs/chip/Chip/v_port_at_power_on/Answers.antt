-- `Chip::v_port_at_power_on` meets its contract: a case for each chip. Assumes nothing.
use Rattle.file.specs.Chips.{v_port_at_power_on}
use Rattle.file.proofs.chip.Chip.v_port_at_power_on.Goals as goal

pub returns-in-Gd5462 : goal.returns-in-Gd5462
unfolding v_port_at_power_on
returns-in-Gd5462 c = rw c.in-Gd5462.is

pub returns-in-Gd5464 : goal.returns-in-Gd5464
unfolding v_port_at_power_on
returns-in-Gd5464 c = rw c.in-Gd5464.is
