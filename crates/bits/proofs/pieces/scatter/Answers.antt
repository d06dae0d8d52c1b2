use Rattle.std.proofs.Common.{sym, refl, ◌∙◌, arith}
use Rattle.bits.proofs.Encoded.{scatter-next, scatter-last}
use Rattle.bits.proofs.pieces.scatter.Goals as goal

pub loop-piece-init : goal.loop-piece-init
loop-piece-init c = refl

pub loop-piece-smaller : goal.loop-piece-smaller
loop-piece-smaller c = omega (arith, c.in-Some.ensures.cases.1)

pub loop-piece-preserved : goal.loop-piece-preserved
loop-piece-preserved c =
    scatter-next c.args.number c.in-Some.piece.now c.in-Some.below.now c.loop-piece.registers c.put.new.registers c.width.result c.checked_shr.result c.unwrap_or.result
    c.ranges.number.fits c.width.ensures c.checked_shr.ensures c.unwrap_or.ensures c.put.ensures
    ∙ rw c.in-Some.ensures.cases.0 at c.loop-piece.invariant

pub returns : goal.returns
returns c = sym (scatter-last c.loop-piece.rest.now c.loop-piece.registers c.args.number c.in_default.ensures.cases) ∙ c.loop-piece.invariant
