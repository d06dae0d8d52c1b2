use Prim.Native.Nat.{ℕ, ◌+◌, min}
use mathlib.Core.Path.{ap, ◌∙◌}
use native.Mathlib.Omega.{arith}
use lib.ListN.{take, drop}
use Rattle.refusals.specs.Counted.{most_count}
use Rattle.refusals.specs.Said.{refused_sum, summed_up, total}
use Rattle.refusals.proofs.Telling.{from-two, next-sum, no-sum-left}
use Rattle.refusals.proofs.line.refused_sum.Goals as goal

pub loop-count-init : goal.loop-count-init
unfolding refused_sum
loop-count-init c = (omega (arith, ap total (from-two c.args.counts.now c.told-counts)), omega arith)

pub loop-count-preserved : goal.loop-count-preserved
unfolding summed_up
loop-count-preserved c =
    let here = c.loop-count in
    let told = take 21 (drop 2 c.args.counts.now) in (
      ap (λ (sum : ℕ). min (sum + total (drop (here.count-index + 1) told)) most_count) c.saturating_add-sum.ensures
          ∙ next-sum told here.count-index here.sum (omega arith)
          ∙ here.invariant.0,
      omega arith,
    )

pub returns : goal.returns
returns c =
    let here = c.loop-count in
    let told = take 21 (drop 2 c.args.counts.now) in
    let none = no-sum-left told here.count-index (omega arith) in
    omega (arith, here.invariant.0, here.invariant.1, none)
