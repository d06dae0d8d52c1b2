-- `line::refused_sum` meets its contract: the sum so far, and the counts that are left, are the sum of all. Assumes nothing.
use Prim.Native.Nat.{◌+◌, ◌≤◌, min}
use mathlib.Core.Path.{◌≡◌}
use lib.ListN.{drop}
use Rattle.refusals.specs.Counted.{most_count}
use Rattle.refusals.specs.Said.{refused_sum, total}
use Rattle.refusals.proofs.line.refused_sum.Given as goal

abbrev pub invariant-loop-count : goal.invariant-loop-count
invariant-loop-count l = (min (l.sum + total (drop l.count-index l.count-items)) most_count ≡ refused_sum l.counts) × (l.sum ≤ most_count)
