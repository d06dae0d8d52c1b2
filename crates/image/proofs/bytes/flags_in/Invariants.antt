-- `flags_in` meets its contract. Assumes nothing.
use lib.ListN.{drop}
use Rattle.image.specs.Bytes.{flags_in}
use Rattle.image.proofs.Filling.{Filling}
use Rattle.image.proofs.bytes.flags_in.Given as goal

abbrev pub invariant-loop-i : goal.invariant-loop-i
invariant-loop-i l = Filling l.initial.flags 0 (flags_in l.bytes) l.flags l.i (flags_in (drop l.i l.bytes))
