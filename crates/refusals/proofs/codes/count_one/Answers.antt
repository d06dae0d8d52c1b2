-- `codes::count_one` meets its contract. Assumes nothing.
use Prim.Native.Nat.{ℕ, ◌+◌, ◌<◌, ◌≤◌, min}
use mathlib.Core.Path.{◌≡◌, refl, ap, ◌∙◌}
use native.Mathlib.Omega.{arith}
use borrow.Author.Tests.{le-ltb, lt-ltb, ltb-false, ltb-true}
use lib.Dec.{ltb}
use lib.ListN.{get_or, set}
use Rattle.bits.proofs.Test.{by-test}
use Rattle.refusals.specs.Counted.{code_count, counted_at, more, most_count}
use Rattle.refusals.proofs.codes.count_one.Goals as goal

-- one more, up to the largest count
more-saturates : (n : ℕ) → n ≤ most_count → min (n + 1) most_count ≡ more n
unfolding more
more-saturates n h =
    by-test (ltb n most_count) (λ e. rw e (omega (arith, ltb-true n most_count e)))
    (λ e. rw e (omega (arith, h, ltb-false n most_count e)))

pub returns-then-place-lt-CODES : goal.returns-then-place-lt-CODES
unfolding counted_at
returns-then-place-lt-CODES c =
    let code = c.args.code in
    let low : code < code_count = omega (arith, c.from-place.ensures, c.if-place-lt-CODES.true) in
    let counts = c.args.counts.now in
    let one = rw c.from-place.ensures at c.saturating_add.ensures in
    let most : get_or counts code 0 ≤ most_count = omega (arith, c.fits-counts code) in
    rw (c.from-place.ensures, lt-ltb code code_count low) (ap (set counts code) (one ∙ more-saturates (get_or counts code 0) most))

pub returns-else-place-lt-CODES : goal.returns-else-place-lt-CODES
unfolding counted_at
returns-else-place-lt-CODES c =
    let code = c.args.code in
    let high : code_count ≤ code = omega (arith, c.from-place.ensures, c.if-place-lt-CODES.false) in
    rw (le-ltb code code_count high) refl
