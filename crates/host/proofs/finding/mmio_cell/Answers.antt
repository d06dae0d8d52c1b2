-- `mmio_cell` meets its contract. Assumes nothing.
use mathlib.Core.Path.{◌∙◌}
use mathlib.Core.Bool.{true≢false}
use native.Mathlib.Omega.{arith}
use Rattle.host.proofs.Found.{low-mmio, high-mmio}
use Rattle.host.proofs.finding.mmio_cell.Goals as goal

pub returns-then-at-lt128 : goal.returns-then-at-lt128
returns-then-at-lt128 c = λ k write. (c.pick.ensures.0 k).1 ∙ low-mmio _ _ write (omega (arith, c.if-at-lt128.true))

pub returns-then-at-lt192 : goal.returns-then-at-lt192
returns-then-at-lt192 c = λ k write. (c.pick-then-at-lt192.ensures.0 k).1 ∙ low-mmio _ _ write (omega (arith, c.if-at-lt192.true))

pub returns-then-at-lt224 : goal.returns-then-at-lt224
returns-then-at-lt224 c = λ k write. (c.pick-then-at-lt224.ensures.0 k).1 ∙ low-mmio _ _ write (omega (arith, c.if-at-lt224.true))

pub returns-then-at-lt272 : goal.returns-then-at-lt272
returns-then-at-lt272 c = λ k write. (c.pick-then-at-lt272.ensures.0 k).1 ∙ low-mmio _ _ write c.if-at-lt272.true

pub returns-then-at-lt768 : goal.returns-then-at-lt768
returns-then-at-lt768 c = λ k. absurd (true≢false k)

pub returns : goal.returns
returns c = λ k write. let found = c.pick-2.ensures.0 k in found.1 ∙ high-mmio _ _ write c.if-at-lt768.false (omega (arith, found.0))
