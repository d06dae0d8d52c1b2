-- `closing::register_line` meets its contract. Assumes nothing.
use Rattle.file.specs.Readers.{ascii}
use Rattle.summing.specs.Closing.{register_line}
use Rattle.summing.proofs.closing.register_line.Goals as goal

pub returns : goal.returns
unfolding register_line ascii
returns c = rw (c.choose.ensures, c.told-2.ensures, c.blank.ensures, c.phrase-bits-2.ensures, c.hex-2.ensures, c.from-2.ensures, c.say-2.ensures, c.column-line.ensures, c.told.ensures, c.phrase-bits.ensures, c.hex.ensures, c.from.ensures, c.say.ensures, c.bit_digits-digits.ensures, c.count_line-line.ensures, c.counted.ensures, c.phrase.ensures, c.named.ensures, c.say-many.ensures, c.say-one.ensures)
