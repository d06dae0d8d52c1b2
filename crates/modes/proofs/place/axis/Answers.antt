-- `modes::place::axis` meets its contract. Assumes nothing.
use mathlib.Core.Path.{sym, ◌∙◌}
use native.Mathlib.Omega.{arith}
use Rattle.modes.specs.Form.{Horizontal, Vertical}
use Rattle.modes.proofs.StagesRead.{picks-first, picks-second, picks-none}
use Rattle.modes.proofs.place.axis.Goals as goal

pub returns-then-is_at : goal.returns-then-is_at
returns-then-is_at c =
    let here = c.is_at.ensures in
    picks-first c.args.line.now c.args.at 0x68 0x76 (λ z. omega (arith, z)) Horizontal Vertical (here.at_in_bounds c.if-is_at.true) (sym here.value ∙ c.if-is_at.true)

pub returns-then-is_at-2 : goal.returns-then-is_at-2
returns-then-is_at-2 c =
    let here = c.is_at-2.ensures in
    picks-second c.args.line.now c.args.at 0x68 0x76 (λ z. omega (arith, z)) Horizontal Vertical (here.at_in_bounds c.if-is_at-2.true) (sym here.value ∙ c.if-is_at-2.true)

pub returns : goal.returns
returns c =
    picks-none c.args.line.now c.args.at 0x68 0x76 (λ z. omega (arith, z)) Horizontal Vertical (sym c.is_at.ensures.value ∙ c.if-is_at.false) (sym c.is_at-2.ensures.value ∙ c.if-is_at-2.false)
