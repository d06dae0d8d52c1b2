-- `bits::pieces::piece_width` meets its contract. Assumes nothing.
use Rattle.std.proofs.Common.{◌∙◌}
use Rattle.bits.specs.Encoded.{piece_of}
use Rattle.bits.proofs.pieces.piece_width.Goals as goal

pub returns : goal.returns
unfolding piece_of
returns c = c.from.ensures ∙ c.saturating_sub.ensures
