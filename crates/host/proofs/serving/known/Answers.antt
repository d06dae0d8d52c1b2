-- `known` meets its contract. Assumes nothing.
use Prim.Native.Nat.{ℕ, ◌%◌, ◌<◌}
use mathlib.Core.Path.{◌≡◌, sym, ◌∙◌, subst}
use native.Mathlib.Omega.{arith}
use borrow.Author.Tests.{ne_eqb}
use Rattle.host.proofs.Known.{is_known}
use Rattle.host.proofs.serving.known.Goals as goal

pub returns : goal.returns
returns c =
    let cell = c.cell_of-cell.result in
    let narrow : cell % 128 < 0x7C = c.if-narrow-ge124.false in
    let found = c.cell_of-cell.ensures (ne_eqb cell 0x7F (λ (e : cell ≡ 0x7F). let never : ⊥ = omega (arith, e, narrow) in never)) in
    is_known c.args.chip c.args.key c.args.value cell found.0 found.1 narrow (sym c.width_of.ensures ∙ c.if-width_of-width.false)
    (subst (λ (n : ℕ). c.args.value < n) c.limit_of.ensures c.if-limit_of-value.false)
