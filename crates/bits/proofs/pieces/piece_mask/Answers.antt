-- `bits::pieces::piece_mask` meets its contract: the shift stays below 32. Assumes nothing.
use Rattle.std.proofs.Common.{arith, pow_pos}
use Rattle.bits.specs.Encoded.{piece_of}
use Rattle.bits.proofs.Encoded.{in-register, ones-whole}
use Rattle.bits.proofs.pieces.piece_mask.Goals as goal

pub overflow_shl-result : goal.overflow_shl-result
overflow_shl-result c = omega (arith, in-register c.args.piece)

pub overflow_sub-result : goal.overflow_sub-result
overflow_sub-result c = rw (c.piece_width.ensures, ones-whole) (pow_pos (piece_of c.args.piece).width)

pub returns : goal.returns
returns c = rw (c.piece_width.ensures, ones-whole)
