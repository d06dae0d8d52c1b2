-- `portable::lent::widen` meets its contract, by what is copied so far. Assumes nothing.
use Rattle.portable.proofs.Copied.{Copying}
use Rattle.portable.proofs.lent.widen.Given as goal

abbrev pub invariant-loop-i : goal.invariant-loop-i
invariant-loop-i l = Copying l.bytes l.registers l.i
