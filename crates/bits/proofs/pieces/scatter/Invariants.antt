-- `bits::pieces::scatter` meets its contract. Invariant: the pieces that are left are still to be set. Assumes nothing.
use Rattle.std.proofs.Common.{◌≡◌, map, length}
use Rattle.bits.specs.Encoded.{piece_of}
use Rattle.bits.specs.Pieces.{scatter}
use Rattle.bits.proofs.pieces.scatter.Given as goal

abbrev pub invariant-loop-piece : goal.invariant-loop-piece
invariant-loop-piece l =
    scatter (map piece_of l.rest) l.number l.registers ≡ scatter (map piece_of l.pieces) l.number l.initial.registers

abbrev pub decreases-loop-piece : goal.decreases-loop-piece
decreases-loop-piece l = length l.rest
