-- `gives` meets its contract. Assumes nothing.
use mathlib.Core.Path.{sym}
use Rattle.hex_text.specs.Machine.{bytes_of, given_by}
use Rattle.hex_text.proofs.Standing.{gives-none}
use Rattle.hex_text.proofs.state.gives.Goals as goal

pub returns-in-Byte : goal.returns-in-Byte
unfolding given_by
returns-in-Byte c = rw (c.in-Byte.is, sym c.ends_word.ensures) c.given_where.ensures

pub returns-in-ByteReturn : goal.returns-in-ByteReturn
unfolding given_by
returns-in-ByteReturn c = rw c.in-ByteReturn.is c.given_where-in-ByteReturn.ensures

pub returns-in_default : goal.returns-in_default
unfolding bytes_of
returns-in_default c = gives-none c.args.before.stand c.in_default.not-Byte c.in_default.not-ByteReturn c.args.byte
