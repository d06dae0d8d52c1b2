use Prim.Native.Nat.{ℕ, ◌+◌, ◌-◌, ◌*◌, ◌/◌}
use mathlib.Core.List.{List}
use mathlib.Core.Path.{◌≡◌, refl, sym, ap, ◌∙◌}
use native.Mathlib.Omega.{arith}
use lib.ListN.{length, get_or, drop}
use Rattle.refusals.specs.Counted.{counted_at, replies_counted}
use Rattle.refusals.proofs.RepliesCounted.{all-counted, next-counted, next-two, none_yet}
use Rattle.refusals.proofs.codes.counting_replies.Goals as goal

pub loop-n-init : goal.loop-n-init
loop-n-init c = (none_yet _ _ _, omega arith, refl)

pub loop-n-preserved : goal.loop-n-preserved
loop-n-preserved c =
    let here = c.loop-n in
    let replies = c.args.replies.now in
    let both =
    c.count_one-in-loop-n.ensures ∙ ap (λ (counts : List ℕ). counted_at counts (get_or replies (16 * here.n + 8) 0)) c.count_one.ensures in (
      rw both (next-two (length replies / 8) here.counts replies here.n (omega arith)) ∙ here.invariant.0,
      omega arith,
      here.invariant.2,
    )

pub returns-then-count-eq1 : goal.returns-then-count-eq1
unfolding replies_counted
returns-then-count-eq1 c =
    let here = c.loop-n in
    let replies = c.args.replies.now in
    let count = length replies / 8 in
    let last : count - 1 ≡ 2 * here.n = omega (arith, c.if-count-eq1.true, c.loop-n-test.false) in
    let on : 16 * here.n ≡ 8 * (2 * here.n) = omega arith in
    let rest = drop (8 * (2 * here.n + 1)) replies in
    let one = rw last at c.count_one-then-count-eq1.ensures in
    let end = all-counted count (counted_at here.counts (get_or replies (8 * (2 * here.n)) 0)) rest (2 * here.n + 1) (omega arith) in
    let all = one ∙ sym end ∙ next-counted count here.counts replies (2 * here.n) (omega arith) ∙ rw on at here.invariant.0 in
    λ i. record { counts = all i }

pub returns-else-count-eq1 : goal.returns-else-count-eq1
unfolding replies_counted
returns-else-count-eq1 c =
    let here = c.loop-n in
    let replies = c.args.replies.now in
    let all = sym (all-counted (length replies / 8) here.counts (drop (16 * here.n) replies) (2 * here.n) (omega (arith, c.if-count-eq1.false, c.loop-n-test.false))) ∙ here.invariant.0 in
    λ i. record { counts = all i }
