-- `numbers::behind_size` meets its contract. Assumes nothing.
use native.Mathlib.Omega.{arith}
use Rattle.text.proofs.Spaced.{minus-length, plain-length}
use Rattle.text.proofs.numbers.behind_size.Goals as goal

pub returns-then-minus : goal.returns-then-minus
returns-then-minus c =
    let args = c.args in
    omega (arith, minus-length args.minus args.n c.if-minus.true, c.places.ensures.0)

pub returns-else-minus : goal.returns-else-minus
returns-else-minus c =
    let args = c.args in
    omega (arith, plain-length args.minus args.n c.if-minus.false, c.places-else-minus.ensures.0)
