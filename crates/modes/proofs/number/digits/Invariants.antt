-- `modes::number::digits` meets its contract. Assumes nothing.
use Prim.Native.Nat.{◌+◌}
use mathlib.Core.Path.{◌≡◌}
use Rattle.modes.specs.Scan.{digit_runner}
use Rattle.modes.proofs.Loops.{Spelling}
use Rattle.modes.proofs.number.digits.Given as goal

abbrev pub invariant-loop-byte : goal.invariant-loop-byte
invariant-loop-byte l = Spelling digit_runner l.line l.at l.most 0 1 l.end l.left l.value × (l.end ≡ l.at + l.byte-index)
