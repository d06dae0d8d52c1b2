use Rattle.std.proofs.Common.{◌≡◌, List, ℕ, map, ap, drop, get_or, arith, lit<}
use Rattle.bits.specs.Encoded.{piece_of}
use Rattle.bits.specs.Pieces.{width}
use Rattle.bits.proofs.Encoded.{in-register, width-next, width-last}
use Rattle.bits.proofs.pieces.width.Goals as goal

pub loop-piece-init : goal.loop-piece-init
loop-piece-init c = (lit< tt, omega arith)

-- the pieces that are left have the width that is asked
left-width : (l left : List ℕ) → left ≡ l → width (map piece_of left) ≡ width (map piece_of l)
left-width l left e = ap (λ (x : List ℕ). width (map piece_of x)) e

pub returns-then-bits-ge32 : goal.returns-then-bits-ge32
returns-then-bits-ge32 c =
    omega (arith, c.loop-piece.invariant, left-width (drop c.args.from c.args.pieces.now) c.pieces_from-left.result.now c.pieces_from-left.ensures)

pub overflow_add-bits : goal.overflow_add-bits
overflow_add-bits c = omega (arith, in-register (get_or c.pieces_from-left.result.now c.loop-piece.piece-index 0))

pub loop-piece-preserved : goal.loop-piece-preserved
loop-piece-preserved c = (
  omega (arith, in-register (get_or c.pieces_from-left.result.now c.loop-piece.piece-index 0)),
  omega (arith, width-next c.pieces_from-left.result.now c.loop-piece.piece-index c.loop-piece-test.true),
)

pub returns : goal.returns
returns c =
    omega
    (arith, width-last c.pieces_from-left.result.now c.loop-piece.piece-index c.loop-piece-test.false, c.loop-piece.invariant, left-width (drop c.args.from c.args.pieces.now) c.pieces_from-left.result.now c.pieces_from-left.ensures)
