-- `Chip::v_port_stored` meets its contract: a case for each chip. Assumes nothing.
use Rattle.file.specs.Registers.{stored_bits}
use Rattle.file.proofs.chip.Chip.v_port_stored.Goals as goal

pub returns-in-Gd5462 : goal.returns-in-Gd5462
unfolding stored_bits
returns-in-Gd5462 c = rw c.in-Gd5462.is

pub returns-in-Gd5464 : goal.returns-in-Gd5464
unfolding stored_bits
returns-in-Gd5464 c = rw c.in-Gd5464.is
