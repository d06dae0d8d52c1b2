-- `words::passing_words` meets its contract. Assumes nothing.
use Rattle.file.specs.Readers.{ascii}
use Rattle.explaining.specs.Words.{passing_words}
use Rattle.explaining.proofs.words.passing_words.Goals as goal

pub returns : goal.returns
unfolding passing_words ascii
returns c = rw (c.choose-address.ensures, c.short.ensures, c.choose-at.ensures, c.say-2.ensures, c.choose-width.ensures, c.decimal.ensures, c.choose-wide.ensures, c.say.ensures, c.decimal-lines.ensures, c.say-pass.ensures, c.none-none.ensures)
