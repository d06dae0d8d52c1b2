-- `timing::table::v_blank_end` meets its contract: the constants are 01's. Assumes nothing.
use Rattle.bits.specs.Encoded.{piece_of, meaning_of}
use Rattle.timing.proofs.table.v_blank_end.Goals as goal

pub returns-then-wide : goal.returns-then-wide
unfolding piece_of meaning_of
returns-then-wide c = rw c.if-wide.true

pub returns-else-wide : goal.returns-else-wide
unfolding piece_of meaning_of
returns-else-wide c = rw c.if-wide.false
