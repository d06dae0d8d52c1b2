-- `port_cell` meets its contract. Assumes nothing.
use mathlib.Core.Path.{◌∙◌}
use mathlib.Core.Bool.{true≢false}
use native.Mathlib.Omega.{arith}
use Rattle.host.proofs.Found.{port-found}
use Rattle.host.proofs.finding.port_cell.Goals as goal

pub returns-then-at-lt944 : goal.returns-then-at-lt944
returns-then-at-lt944 c = λ k. absurd (true≢false k)

pub returns-then-write : goal.returns-then-write
returns-then-write c =
    λ k.
    let found = c.pick.ensures.0 k in
    found.1 ∙ port-found _ _ _ _ c.if-at-lt944.false (omega (arith, found.0)) (rw c.if-write.true)

pub returns : goal.returns
returns c =
    λ k.
    let found = c.pick-2.ensures.0 k in
    found.1 ∙ port-found _ _ _ _ c.if-at-lt944.false (omega (arith, found.0)) (rw c.if-write.false (omega arith))
