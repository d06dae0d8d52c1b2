-- `summary::reached` meets its contract. Assumes nothing.
use mathlib.Core.Path.{refl}
use borrow.Author.Tests.{eq-eqb, ne_eqb}
use Rattle.summing.specs.Summed.{reached}
use Rattle.summing.proofs.Counts.{no_register}
use Rattle.summing.proofs.Typed.{moved-count, reaches-count, writes-count}
use Rattle.summing.proofs.summary.reached.Goals as goal

pub returns-then-bits-eq0 : goal.returns-then-bits-eq0
unfolding reached
returns-then-bits-eq0 c = rw (eq-eqb _ _ c.if-bits-eq0.true) refl

pub returns-then-number-ge-REGISTERS : goal.returns-then-number-ge-REGISTERS
returns-then-number-ge-REGISTERS c =
    let args = c.args in
    let good = c.well_formed.0 in
    no_register args.summary args.number args.bits args.moved c.if-bits-eq0.false (writes-count args.summary _ good) (reaches-count args.summary _ good)
    (moved-count args.summary _ good) c.if-number-ge-REGISTERS.true

pub returns : goal.returns
unfolding reached
returns c = rw (ne_eqb _ _ c.if-bits-eq0.false, c.more.ensures) refl
