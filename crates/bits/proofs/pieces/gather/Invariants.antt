-- `bits::pieces::gather` meets its contract. Invariant: the pieces so far, with those from k on behind them, are the whole number. Assumes nothing.
use Rattle.std.proofs.Common.{◌≡◌, ◌%◌, ◌^◌, ◌<◌, ◌≤◌, map, length}
use Rattle.bits.specs.Encoded.{piece_of}
use Rattle.bits.specs.Pieces.{gather}
use Rattle.bits.proofs.Encoded.{followed}
use Rattle.bits.proofs.pieces.gather.Given as goal

abbrev pub invariant-loop-piece : goal.invariant-loop-piece
invariant-loop-piece l =
    (l.piece-index ≤ length l.pieces)
    × (l.number < 2 ^ 32)
    × (followed l.registers l.pieces (2 ^ 32) l.number l.piece-index ≡ gather l.registers (map piece_of l.pieces) % 2 ^ 32)
