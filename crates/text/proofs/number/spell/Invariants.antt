-- `number::spell` meets its contract: with the digits that are left stored, the buffer holds them all. Assumes nothing.
use Prim.Native.Nat.{◌≤◌}
use mathlib.Core.Path.{◌≡◌}
use lib.ListN.{length}
use lib.Seq.{sets}
use Rattle.io.specs.Digits.{last_digits}
use Rattle.text.proofs.number.spell.Given as goal

abbrev pub invariant-loop-i : goal.invariant-loop-i
invariant-loop-i l =
    (sets l.buffer l.at (last_digits 10 l.i l.rest) ≡ sets l.initial.buffer l.at (last_digits 10 l.count l.n)) × (l.i ≤ l.count) × (length l.buffer ≡ length l.initial.buffer)

abbrev pub decreases-loop-i : goal.decreases-loop-i
decreases-loop-i l = l.i
