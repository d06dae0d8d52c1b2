-- `bits::pieces::put` meets its contract: reach and value are the rule's own, within 16 bits. Assumes nothing.
use Rattle.std.proofs.Common.{sym, arith}
use Rattle.bits.proofs.Encoded.{low_below, put-absent, put-shifted, reach-below, reach-whole, value-below, value-whole}
use Rattle.bits.proofs.pieces.put.Goals as goal

pub overflow_shl-reach : goal.overflow_shl-reach
overflow_shl-reach c = omega (arith, low_below c.args.piece)

pub overflow_cast-reach : goal.overflow_cast-reach
overflow_cast-reach c =
    record { fits = rw (c.piece_mask-mask.ensures, c.piece_low-low.ensures, reach-whole c.args.piece) (reach-below c.args.piece) }

pub overflow_shl-value : goal.overflow_shl-value
overflow_shl-value c = omega (arith, low_below c.args.piece)

pub overflow_cast-value : goal.overflow_cast-value
overflow_cast-value c =
    record { fits = rw (c.piece_mask-mask.ensures, c.piece_low-low.ensures, value-whole c.args.piece c.args.number) (value-below c.args.piece c.args.number) }

pub returns-then-register-registers : goal.returns-then-register-registers
returns-then-register-registers c =
    rw (c.store.ensures, c.from-register.ensures, c.piece_mask-mask.ensures, c.piece_low-low.ensures)
    (put-shifted c.args.registers.now c.args.piece c.args.number)

pub returns-else-register-registers : goal.returns-else-register-registers
returns-else-register-registers c = sym (put-absent c.args.registers.now c.args.piece c.args.number (omega (arith, c.from-register.ensures, c.if-register-registers.false)))
