-- `codes::counting_replies` meets its contract: what is counted, and then the codes of the replies that are left, are the counts of all. Assumes nothing.
use Prim.Native.Nat.{◌-◌, ◌*◌, ◌/◌, ◌≤◌}
use mathlib.Core.Path.{◌≡◌}
use lib.ListN.{length, drop}
use Rattle.refusals.specs.Counted.{codes_counted}
use Rattle.refusals.proofs.codes.counting_replies.Given as goal

abbrev pub invariant-loop-n : goal.invariant-loop-n
invariant-loop-n l =
    (codes_counted (l.count - 2 * l.n) l.counts (drop (16 * l.n) l.replies) ≡ codes_counted l.count l.initial.counts l.replies)
    × (2 * l.n ≤ l.count)
    × (l.count ≡ length l.replies / 8)
