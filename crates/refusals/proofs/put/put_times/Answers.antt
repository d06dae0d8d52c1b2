-- `put::put_times` meets its contract. Assumes nothing.
use native.Mathlib.Omega.{arith}
use borrow.Author.Tests.{eq-eqb, ne_eqb}
use Rattle.file.specs.Readers.{ascii}
use Rattle.text.specs.Text.{space}
use Rattle.text.proofs.Stores.{then-text}
use Rattle.refusals.specs.Said.{times_text}
use Rattle.refusals.proofs.Lengths.{times-length}
use Rattle.refusals.proofs.put.put_times.Goals as goal

pub returns-then-times-eq1 : goal.returns-then-times-eq1
unfolding times_text space ascii
returns-then-times-eq1 c =
    let number = c.put_behind-at.ensures.stored (omega (arith, times-length c.args.times)) in
    let long = rw (eq-eqb _ _ c.if-times-eq1.true) at (times-length c.args.times) in
    let room = rw (eq-eqb _ _ c.if-times-eq1.true) at c.requires in
    rw (eq-eqb _ _ c.if-times-eq1.true) (then-text number (c.put.ensures.stored (omega (arith, room, long, number.place))))

pub returns : goal.returns
unfolding times_text space ascii
returns c =
    let number = c.put_behind-at.ensures.stored (omega (arith, times-length c.args.times)) in
    let long = rw (ne_eqb _ _ c.if-times-eq1.false) at (times-length c.args.times) in
    let room = rw (ne_eqb _ _ c.if-times-eq1.false) at c.requires in
    rw (ne_eqb _ _ c.if-times-eq1.false) (then-text number (c.put-2.ensures.stored (omega (arith, room, long, number.place))))
