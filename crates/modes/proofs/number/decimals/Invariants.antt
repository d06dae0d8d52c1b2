-- `modes::number::decimals` meets its contract. Assumes nothing.
use Prim.Native.Nat.{◌+◌}
use mathlib.Core.Path.{◌≡◌}
use Rattle.modes.specs.Scan.{decimal_runner}
use Rattle.modes.proofs.Loops.{Spelling}
use Rattle.modes.proofs.number.decimals.Given as goal

abbrev pub invariant-loop-byte : goal.invariant-loop-byte
invariant-loop-byte l = Spelling decimal_runner l.line l.at 3 l.whole 1000 l.end l.left l.value × (l.end ≡ l.at + l.byte-index)
