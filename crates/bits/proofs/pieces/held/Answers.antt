-- `bits::pieces::held` meets its contract: a shift and a mask are a quotient and a remainder. Assumes nothing.
use Rattle.std.proofs.Common.{◌≡◌, ◌/◌, get_or, rules, arith}
use Rattle.std.proofs.lemmas.Option.{unwrap_or-slice_get}
use lib.Bits.{and_mask}
use Rattle.bits.specs.Encoded.{piece_of}
use Rattle.bits.specs.Pieces.{held}
use Rattle.bits.proofs.Encoded.{low_below}
use Rattle.bits.proofs.pieces.held.Goals as goal

pub overflow_shr-result : goal.overflow_shr-result
overflow_shr-result c = omega (arith, low_below c.args.piece)

pub returns : goal.returns
unfolding held piece_of
returns c =
    let register : c.unwrap_or-register.result ≡ get_or c.args.registers.now (c.args.piece / 256) 0 = search (rules, unwrap_or-slice_get) in
    rw (c.from-2.ensures, register, c.piece_low.ensures, c.piece_mask.ensures) (and_mask _ _)
