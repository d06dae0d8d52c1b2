-- `modes::place::sign` meets its contract. Assumes nothing.
use mathlib.Core.Path.{sym, ◌∙◌}
use native.Mathlib.Omega.{arith}
use mathlib.Core.Bool.{true, false}
use Rattle.modes.proofs.StagesRead.{picks-first, picks-second, picks-none}
use Rattle.modes.proofs.place.sign.Goals as goal

pub returns-then-is_at : goal.returns-then-is_at
returns-then-is_at c =
    let here = c.is_at.ensures in
    picks-first c.args.line.now c.args.at 0x2B 0x2D (λ z. omega (arith, z)) false true (here.at_in_bounds c.if-is_at.true) (sym here.value ∙ c.if-is_at.true)

pub returns-then-is_at-2 : goal.returns-then-is_at-2
returns-then-is_at-2 c =
    let here = c.is_at-2.ensures in
    picks-second c.args.line.now c.args.at 0x2B 0x2D (λ z. omega (arith, z)) false true (here.at_in_bounds c.if-is_at-2.true) (sym here.value ∙ c.if-is_at-2.true)

pub returns : goal.returns
returns c =
    picks-none c.args.line.now c.args.at 0x2B 0x2D (λ z. omega (arith, z)) false true (sym c.is_at.ensures.value ∙ c.if-is_at.false) (sym c.is_at-2.ensures.value ∙ c.if-is_at-2.false)
