-- `Chip::device_id` meets its contract: a case for each chip. Assumes nothing.
use Rattle.file.specs.Chips.{pci02}
use Rattle.file.proofs.chip.Chip.device_id.Goals as goal

pub returns-in-Gd5462 : goal.returns-in-Gd5462
unfolding pci02
returns-in-Gd5462 c = rw c.in-Gd5462.is

pub returns-in-Gd5464 : goal.returns-in-Gd5464
unfolding pci02
returns-in-Gd5464 c = rw c.in-Gd5464.is
