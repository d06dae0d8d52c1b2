-- `File::power_on` meets its contract. Assumes nothing.
use Rattle.file.specs.File.{power_on}
use Rattle.file.proofs.registers.File.power_on.Goals as goal

pub returns : goal.returns
unfolding power_on
returns c = rw (c.power_on.ensures, c.v_port_at_power_on.ensures)
