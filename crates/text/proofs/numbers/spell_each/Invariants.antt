-- `numbers::spell_each` meets its contract: with the rest of the numbers stored, the buffer holds them all. Assumes nothing.
use Prim.Native.Nat.{◌+◌, ◌≤◌}
use mathlib.Core.Path.{◌≡◌}
use lib.ListN.{length, drop}
use lib.Seq.{sets}
use Rattle.text.specs.Text.{spaced}
use Rattle.text.proofs.numbers.spell_each.Given as goal

abbrev pub invariant-loop-i : goal.invariant-loop-i
invariant-loop-i l =
    (sets l.buffer l.at (spaced (drop l.i l.minus) (drop l.i l.numbers)) ≡ sets l.initial.buffer l.at-2 (spaced l.minus l.numbers))
    × (l.at + length (spaced (drop l.i l.minus) (drop l.i l.numbers)) ≡ l.at-2 + length (spaced l.minus l.numbers))
    × (l.i ≤ length l.numbers)
    × (length l.buffer ≡ length l.initial.buffer)
