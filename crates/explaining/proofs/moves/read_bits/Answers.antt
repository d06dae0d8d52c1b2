-- `moves::read_bits` meets its contract. Assumes nothing.
use mathlib.Core.Path.{sym, ◌∙◌}
use Rattle.explaining.proofs.MovedBits.{either_way, narrow-none, read_above, read_below}
use Rattle.explaining.proofs.moves.read_bits.Goals as goal

pub returns-then-register-lt-CR0 : goal.returns-then-register-lt-CR0
returns-then-register-lt-CR0 c = read_below c.args.wide c.args.register c.args.k c.if-register-lt-CR0.true

pub returns-then-register-gt-CR1E : goal.returns-then-register-gt-CR1E
returns-then-register-gt-CR1E c = read_above c.args.wide c.args.register c.args.k c.if-register-gt-CR1E.true

pub returns-then-wide : goal.returns-then-wide
returns-then-wide c = rw c.if-wide.true c.moved_at.ensures

pub returns-then-register-eq-CR1A : goal.returns-then-register-eq-CR1A
returns-then-register-eq-CR1A c = rw (c.if-wide.false, c.if-register-eq-CR1A.true) (narrow-none c.args.k)

pub returns : goal.returns
returns c =
    let start = c.args in
    c.moved_at-2.ensures ∙ sym (either_way start.wide start.register start.k c.if-register-eq-CR1A.false)
