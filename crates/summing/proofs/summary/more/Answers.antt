-- `summary::more` meets its contract. Assumes nothing.
use borrow.Author.Tests.{ltb-false, ltb-true}
use native.Mathlib.Omega.{arith}
use mathlib.Core.Path.{◌∙◌}
use Prim.Native.Nat.{ℕ, ◌+◌, ◌≤◌, min}
use mathlib.Core.Path.{◌≡◌}
use lib.Dec.{ltb}
use Rattle.bits.proofs.Test.{by-test}
use Rattle.summing.specs.Summed.{more, most_count}
use Rattle.summing.proofs.summary.more.Goals as goal

saturates : (n : ℕ) → n ≤ most_count → min (n + 1) most_count ≡ more n
unfolding more
saturates n h =
    by-test (ltb n most_count) (λ e. rw e (omega (arith, ltb-true n most_count e)))
    (λ e. rw e (omega (arith, h, ltb-false n most_count e)))

pub returns : goal.returns
returns c = c.saturating_add.ensures ∙ saturates c.args.n (omega arith)
