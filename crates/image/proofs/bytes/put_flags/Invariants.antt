-- `put_flags` meets its contract. Assumes nothing.
use Prim.Native.Nat.{◌+◌}
use lib.ListN.{drop}
use Rattle.image.specs.Bytes.{flag_bytes}
use Rattle.image.proofs.Filling.{Filling}
use Rattle.image.proofs.bytes.put_flags.Given as goal

abbrev pub invariant-loop-i : goal.invariant-loop-i
invariant-loop-i l = Filling l.initial.buffer l.at (flag_bytes l.flags) l.buffer (l.at + l.i) (flag_bytes (drop l.i l.flags))
