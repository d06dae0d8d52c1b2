-- `put_colours` meets its contract. Assumes nothing.
use Prim.Native.Nat.{◌+◌, ◌*◌}
use lib.ListN.{drop}
use Rattle.image.specs.Bytes.{colour_bytes}
use Rattle.image.proofs.Filling.{Filling}
use Rattle.image.proofs.bytes.put_colours.Given as goal

abbrev pub invariant-loop-i : goal.invariant-loop-i
invariant-loop-i l = Filling l.initial.buffer l.at (colour_bytes l.colours) l.buffer (l.at + 3 * l.i) (colour_bytes (drop l.i l.colours))
