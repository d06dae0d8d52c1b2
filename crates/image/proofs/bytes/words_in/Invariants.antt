-- `words_in` meets its contract. Assumes nothing.
use Prim.Native.Nat.{◌*◌}
use lib.ListN.{drop}
use Rattle.image.specs.Bytes.{words_in}
use Rattle.image.proofs.Filling.{Filling}
use Rattle.image.proofs.bytes.words_in.Given as goal

abbrev pub invariant-loop-i : goal.invariant-loop-i
invariant-loop-i l = Filling l.initial.words 0 (words_in l.bytes) l.words l.i (words_in (drop (2 * l.i) l.bytes))
