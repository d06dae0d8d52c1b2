-- `line::column` meets its contract: the spaces that are left, behind the line, are all of them behind it. Assumes nothing.
use Prim.Native.Nat.{◌-◌}
use mathlib.Core.Path.{◌≡◌}
use lib.ListN.{replicate}
use Rattle.text.specs.Fixed.{behind}
use Rattle.explaining.proofs.line.column.Given as goal

abbrev pub invariant-spaces : goal.invariant-spaces
invariant-spaces l = behind l.after (replicate (l.to - l.counter) 0x20) ≡ behind l.initial.after (replicate (l.to - l.initial.counter) 0x20)
