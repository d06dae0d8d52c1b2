-- `bits::pieces::width` meets its contract. Invariant: the bits so far, with the pieces from here on, are the whole width. Assumes nothing.
use Rattle.std.proofs.Common.{◌≡◌, ◌+◌, ◌<◌, map, drop}
use Rattle.bits.specs.Encoded.{piece_of}
use Rattle.bits.specs.Pieces.{width}
use Rattle.bits.proofs.pieces.width.Given as goal

abbrev pub invariant-loop-piece : goal.invariant-loop-piece
invariant-loop-piece l =
    (l.bits < 48) × (l.bits + width (map piece_of (drop l.piece-index l.left)) ≡ width (map piece_of l.left))
