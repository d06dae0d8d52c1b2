-- `put_words` meets its contract. Assumes nothing.
use Prim.Native.Nat.{◌+◌, ◌*◌}
use lib.ListN.{drop}
use Rattle.image.specs.Bytes.{word_bytes}
use Rattle.image.proofs.Filling.{Filling}
use Rattle.image.proofs.bytes.put_words.Given as goal

abbrev pub invariant-loop-i : goal.invariant-loop-i
invariant-loop-i l = Filling l.initial.buffer l.at (word_bytes l.words) l.buffer (l.at + 2 * l.i) (word_bytes (drop l.i l.words))
