-- `state_bytes` meets its contract. Assumes nothing.
use Rattle.image.specs.Parts.{state_bytes}
use Rattle.image.proofs.parts.state_bytes.Goals as goal

pub returns : goal.returns
unfolding state_bytes
returns c = cc (c.flag_byte.ensures, c.flag_byte-2.ensures, c.chip_byte.ensures)
