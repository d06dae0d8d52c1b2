-- `File::name` meets its contract. Assumes nothing.
use Rattle.file.specs.Readers.{ascii, name_table}
use Rattle.file.specs.Registers.{registers}
use Rattle.file.proofs.registers.File.name.Goals as goal

pub returns : goal.returns
unfolding name_table registers ascii
returns c = c.text_at.ensures
