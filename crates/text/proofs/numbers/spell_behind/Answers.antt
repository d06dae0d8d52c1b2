-- `numbers::spell_behind` meets its contract. Assumes nothing.
use native.Mathlib.Omega.{arith}
use Rattle.bits.proofs.Test.{by-test}
use Rattle.text.specs.Text.{decimal, decimal_places, signed, space}
use Rattle.text.proofs.Spaced.{minus-length, plain-length}
use Rattle.text.proofs.Spelled.{digits-length}
use Rattle.text.proofs.Stores.{then-text}
use Rattle.text.proofs.numbers.spell_behind.Goals as goal

pub byte-at-requires : goal.byte-at-requires
byte-at-requires c =
    let args = c.args in
    by-test args.minus
    (λ e. omega (arith, minus-length args.minus args.n e))
    (λ e. omega (arith, plain-length args.minus args.n e))

pub byte-at-requires-then-minus : goal.byte-at-requires-then-minus
byte-at-requires-then-minus c =
    let args = c.args in
    omega (arith, minus-length args.minus args.n c.if-minus.true)

pub store_number-requires : goal.store_number-requires
unfolding decimal
store_number-requires c =
    let args = c.args in
    omega (arith, minus-length args.minus args.n c.if-minus.true, digits-length (decimal_places args.n args.n) args.n)

pub returns-then-minus : goal.returns-then-minus
unfolding signed space
returns-then-minus c =
    rw c.if-minus.true (then-text c.byte-at.ensures (then-text c.byte-at-then-minus.ensures c.store_number.ensures))

pub store_number-requires-2 : goal.store_number-requires-2
unfolding decimal
store_number-requires-2 c =
    let args = c.args in
    omega (arith, plain-length args.minus args.n c.if-minus.false, digits-length (decimal_places args.n args.n) args.n)

pub returns : goal.returns
unfolding signed space
returns c = rw c.if-minus.false (then-text c.byte-at.ensures c.store_number-2.ensures)
