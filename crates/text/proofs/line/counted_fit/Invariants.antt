-- `line::counted_fit` meets its contract: what is left of the room is short of the rest of the lines where the room is short of all. Assumes nothing.
use Prim.Native.Nat.{◌+◌, ◌-◌, ◌*◌, ◌≤◌}
use mathlib.Core.Path.{◌≡◌}
use lib.ListN.{length, drop}
use Rattle.text.specs.Text.{reply_lines}
use Rattle.text.proofs.line.counted_fit.Given as goal

abbrev pub invariant-loop-n : goal.invariant-loop-n
invariant-loop-n l =
    (length (reply_lines l.count l.number l.replies) + l.left ≡ l.room + length (reply_lines (l.count - l.n) (l.number + l.n) (drop (8 * l.n) l.replies)))
    × (l.n ≤ l.count)
