-- `numbers::spaced_fit` meets its contract: what is left of the room is short of the rest of the numbers where the room is short of all. Assumes nothing.
use Prim.Native.Nat.{◌+◌, ◌≤◌}
use mathlib.Core.Path.{◌≡◌}
use lib.ListN.{length, drop}
use Rattle.text.specs.Text.{spaced}
use Rattle.text.proofs.numbers.spaced_fit.Given as goal

abbrev pub invariant-loop-i : goal.invariant-loop-i
invariant-loop-i l =
    (length (spaced l.minus l.numbers) + l.left ≡ l.room + length (spaced (drop l.i l.minus) (drop l.i l.numbers))) × (l.i ≤ length l.numbers)
