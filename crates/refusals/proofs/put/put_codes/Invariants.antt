-- `put::put_codes` meets its contract: with the text of the codes that are left stored, the buffer holds that of all. Assumes nothing.
use Prim.Native.Nat.{◌+◌}
use mathlib.Core.Bool.{true}
use mathlib.Core.Path.{◌≡◌}
use lib.ListN.{length, drop}
use lib.Seq.{sets}
use Rattle.refusals.specs.Said.{codes_text}
use Rattle.refusals.proofs.put.put_codes.Given as goal

abbrev pub invariant-loop-i : goal.invariant-loop-i
invariant-loop-i l =
    (sets l.buffer l.at (codes_text l.first (l.i + 2) (drop l.i l.times-items)) ≡ sets l.initial.buffer l.at-2 (codes_text true 2 (drop 2 l.counts)))
    × (l.at + length (codes_text l.first (l.i + 2) (drop l.i l.times-items)) ≡ l.at-2 + length (codes_text true 2 (drop 2 l.counts)))
    × (length l.buffer ≡ length l.initial.buffer)
