-- `parts::register_part` meets its contract. Assumes nothing.
use Rattle.file.specs.Readers.{ascii}
use Rattle.explaining.specs.Explained.{register_part}
use Rattle.explaining.proofs.parts.register_part.Goals as goal

pub returns : goal.returns
unfolding register_part ascii
returns c = rw (c.change.ensures, c.told.ensures, c.column.ensures, c.phrase-after.ensures, c.hex-2.ensures, c.from-3.ensures, c.phrase-before.ensures, c.hex.ensures, c.from-2.ensures, c.phrase-label.ensures, c.say-2.ensures, c.say.ensures, c.hex-reach.ensures, c.from.ensures, c.named-name.ensures, c.bit_digits-digits.ensures)
