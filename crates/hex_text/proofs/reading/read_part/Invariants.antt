-- `read_part` meets its contract: what is left of the part, read, gives the whole. Assumes nothing.
use Rattle.hex_text.proofs.Putting.{Reading}
use Rattle.hex_text.proofs.reading.read_part.Given as goal

abbrev pub invariant-loop-byte : goal.invariant-loop-byte
invariant-loop-byte l = Reading l.initial.text l.part l.initial.buffer l.at l.buffer l.text l.end l.byte-index
