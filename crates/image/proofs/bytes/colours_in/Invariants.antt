-- `colours_in` meets its contract. Assumes nothing.
use Prim.Native.Nat.{◌*◌}
use lib.ListN.{drop}
use Rattle.image.specs.Bytes.{colours_in}
use Rattle.image.proofs.Filling.{Filling}
use Rattle.image.proofs.bytes.colours_in.Given as goal

abbrev pub invariant-loop-i : goal.invariant-loop-i
invariant-loop-i l = Filling l.initial.colours 0 (colours_in l.bytes) l.colours l.i (colours_in (drop (3 * l.i) l.bytes))
