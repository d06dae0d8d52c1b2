use Prim.Native.Nat.{ℕ, ◌+◌, ◌≤◌}
use mathlib.Core.Path.{◌≡◌, sym, ap, ◌∙◌}
use mathlib.Core.Bool.{true≢false}
use native.Mathlib.Omega.{arith}
use borrow.Author.Tests.{ltb-true, ltb-false}
use lib.Dec.{ltb}
use lib.ListN.{get_or}
use Rattle.bits.proofs.Test.{by-test}
use Rattle.host.proofs.finding.pick.Goals as goal
use Rattle.host.proofs.finding.pick.Goals.{then-cell-ne-UNKNOWN+else-at-wanted, else-cell-ne-UNKNOWN}

pub loop-at-init : goal.loop-at-init
loop-at-init c = λ one below above. absurd (let never : ⊥ = omega (arith, below, above) in never)

pub loop-at-preserved : goal.loop-at-preserved
loop-at-preserved c =
    λ one below upto.
    let cells = c.args.cells.now in
    let wanted = c.args.wanted in
    let at = c.loop-at.at in
    by-test (ltb wanted at) (λ e. c.loop-at.invariant one below (ltb-true wanted at e))
    (λ e. let same : wanted ≡ at = omega (arith, ltb-false wanted at e, upto, one) in
    elim c.if-cell-ne-UNKNOWN.branch [
      | then-cell-ne-UNKNOWN+else-at-wanted w ↦ absurd (w.if-at-wanted.false (sym same))
      | else-cell-ne-UNKNOWN w ↦ ap (λ (n : ℕ). get_or cells n 0) same ∙ w.if-cell-ne-UNKNOWN.false
    ])

pub returns-after-cell-ne-UNKNOWN : goal.returns-after-cell-ne-UNKNOWN
returns-after-cell-ne-UNKNOWN c =
    let cells = c.args.cells.now in
    let wanted = c.args.wanted in
    let end = c.args.end in
    let at = c.loop-at.at in
    let last : end ≤ at + c.args.step = omega arith in (
      λ e. absurd (true≢false e),
      λ one below. by-test (ltb wanted end)
          (λ within. rw within (sym (by-test (ltb wanted at) (λ e. c.loop-at.invariant one below (ltb-true wanted at e))
          (λ e. let same : wanted ≡ at = omega (arith, ltb-false wanted at e, ltb-true wanted end within, last, one) in
          elim c.if-cell-ne-UNKNOWN.branch [
            | then-cell-ne-UNKNOWN+else-at-wanted w ↦ absurd (w.if-at-wanted.false (sym same))
            | else-cell-ne-UNKNOWN w ↦ ap (λ (n : ℕ). get_or cells n 0) same ∙ w.if-cell-ne-UNKNOWN.false
          ])))) (λ e. rw e),
    )

pub returns : goal.returns
returns c =
    let wanted = c.args.wanted in
    let end = c.args.end in
    (λ e. absurd (true≢false e), λ one below. by-test (ltb wanted end) (λ e. rw e (sym (c.loop-at.invariant one below (omega (arith, ltb-true wanted end e, c.loop-at-test.false))))) (λ e. rw e))
