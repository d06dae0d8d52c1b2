-- `line::lines` meets its contract: with the lines of the rest of the replies stored, the buffer holds them all, and the digits lead to the next
-- number's. Assumes nothing.
use Prim.Native.Nat.{◌+◌, ◌-◌, ◌*◌, ◌≤◌, ◌<◌}
use mathlib.Core.Path.{◌≡◌}
use lib.ListN.{length, drop}
use lib.Seq.{sets}
use Rattle.text.specs.Counted.{Next}
use Rattle.text.specs.Text.{reply_lines}
use Rattle.text.proofs.line.lines.Given as goal

abbrev pub invariant-loop-n : goal.invariant-loop-n
invariant-loop-n l =
    (sets l.buffer l.at (reply_lines (l.count - l.n) (l.number + l.n) (drop (8 * l.n) l.replies)) ≡ sets l.initial.buffer l.at-2 (reply_lines l.count l.number l.replies))
    × (l.at + length (reply_lines (l.count - l.n) (l.number + l.n) (drop (8 * l.n) l.replies)) ≡ l.at-2 + length (reply_lines l.count l.number l.replies))
    × (l.n ≤ l.count)
    × (length l.buffer ≡ length l.initial.buffer)
    × ((0 < l.size) × (l.size ≤ 20))
    × Next (l.number + l.n) l.figures l.size
