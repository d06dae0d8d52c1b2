-- `stored` meets its contract. Assumes nothing.
use Rattle.file.specs.Registers.{stored_bits, stored_table}
use Rattle.file.proofs.registers.File.stored.Goals as goal

pub returns : goal.returns
unfolding stored_bits stored_table
returns c = rw c.v_port_stored.ensures
