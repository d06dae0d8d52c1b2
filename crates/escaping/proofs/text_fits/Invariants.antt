-- `text_fits` meets its contract: what is left of the room is short of the rest of the bytes where the room is short of all. Assumes nothing.
use Prim.Native.Nat.{◌+◌, ◌≤◌}
use mathlib.Core.Path.{◌≡◌}
use lib.ListN.{length, drop}
use Rattle.escaping.specs.Escaped.{escaped_text}
use Rattle.escaping.proofs.text_fits.Given as goal

abbrev pub invariant-loop-b : goal.invariant-loop-b
invariant-loop-b l =
    (length (escaped_text l.bytes) + l.left ≡ l.room + length (escaped_text (drop l.b-index l.bytes))) × (l.b-index ≤ length l.bytes)
