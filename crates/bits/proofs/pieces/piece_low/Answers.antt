-- `bits::pieces::piece_low` meets its contract. Assumes nothing.
use Rattle.bits.specs.Encoded.{piece_of}
use Rattle.bits.proofs.pieces.piece_low.Goals as goal

pub returns : goal.returns
unfolding piece_of
returns c = c.from.ensures
