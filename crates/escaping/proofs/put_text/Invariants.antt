-- `put_text` meets its contract: with the rest of the bytes stored, the buffer holds them all. Assumes nothing.
use Prim.Native.Nat.{◌+◌, ◌≤◌}
use mathlib.Core.Path.{◌≡◌}
use lib.ListN.{length, drop}
use lib.Seq.{sets}
use Rattle.escaping.specs.Escaped.{escaped_text}
use Rattle.escaping.proofs.put_text.Given as goal

abbrev pub invariant-loop-b : goal.invariant-loop-b
invariant-loop-b l =
    (sets l.buffer l.at (escaped_text (drop l.b-index l.bytes)) ≡ sets l.initial.buffer l.at-2 (escaped_text l.bytes))
    × (l.at + length (escaped_text (drop l.b-index l.bytes)) ≡ l.at-2 + length (escaped_text l.bytes))
    × (l.b-index ≤ length l.bytes)
    × (length l.buffer ≡ length l.initial.buffer)
