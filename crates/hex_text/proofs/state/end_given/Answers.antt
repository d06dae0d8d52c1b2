-- `end_given` meets its contract. Assumes nothing.
use Rattle.hex_text.specs.Machine.{bytes_of, end_given}
use Rattle.hex_text.proofs.Standing.{ends-none}
use Rattle.hex_text.proofs.state.end_given.Goals as goal

pub returns-in-Byte : goal.returns-in-Byte
unfolding end_given bytes_of
returns-in-Byte c = rw c.in-Byte.is

pub returns-in-ByteReturn : goal.returns-in-ByteReturn
unfolding end_given bytes_of
returns-in-ByteReturn c = rw c.in-ByteReturn.is

pub returns-in_default : goal.returns-in_default
unfolding bytes_of
returns-in_default c = ends-none c.args.before.stand c.in_default.not-Byte c.in_default.not-ByteReturn
