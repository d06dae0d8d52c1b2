use Rattle.std.proofs.Common.{◌^◌, get_or, refl, sym, ◌∙◌, mod-lt, arith, lit<, pow_pos}
use Rattle.bits.proofs.Encoded.{in-register, followed-first, followed-next, followed-last}
use Rattle.bits.proofs.pieces.gather.Goals as goal

pub loop-piece-init : goal.loop-piece-init
loop-piece-init c = (omega arith, lit< tt, followed-first c.args.registers.now c.args.pieces.now (2 ^ 32))

pub overflow_shl-number : goal.overflow_shl-number
overflow_shl-number c = omega (arith, in-register (get_or c.args.pieces.now c.loop-piece.piece-index 0))

pub loop-piece-preserved : goal.loop-piece-preserved
loop-piece-preserved c = (
  omega arith,
  mod-lt _ (pow_pos 32),
  followed-next c.args.registers.now c.args.pieces.now (2 ^ 32) c.loop-piece.number
      c.loop-piece.piece-index c.piece_width.result c.held.result _
      c.loop-piece-test.true c.piece_width.ensures c.held.ensures refl
      ∙ c.loop-piece.invariant.2,
)

pub returns : goal.returns
returns c =
    sym (followed-last c.args.registers.now c.args.pieces.now (2 ^ 32)
    c.loop-piece.number c.loop-piece.piece-index c.loop-piece-test.false c.loop-piece.invariant.1)
    ∙ c.loop-piece.invariant.2
