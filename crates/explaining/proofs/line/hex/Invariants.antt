-- `line::hex` meets its contract: the digits that are left, behind the line, are all of them behind it. Assumes nothing.
use Prim.Native.Nat.{◌-◌}
use mathlib.Core.Path.{◌≡◌}
use Rattle.text.specs.Fixed.{behind}
use Rattle.explaining.specs.Lines.{hex_of}
use Rattle.explaining.proofs.line.hex.Given as goal

abbrev pub invariant-loop-i : goal.invariant-loop-i
invariant-loop-i l = behind l.after (hex_of (l.digits - l.i) l.n) ≡ behind l.initial.after (hex_of l.digits l.n)
