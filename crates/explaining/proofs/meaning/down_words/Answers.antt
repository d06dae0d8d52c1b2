-- `meaning::down_words` meets its contract. Assumes nothing.
use Rattle.file.specs.Readers.{ascii}
use Rattle.explaining.specs.Words.{down_words}
use Rattle.explaining.proofs.meaning.down_words.Goals as goal

pub returns : goal.returns
unfolding down_words ascii
returns c = rw (c.choose.ensures, c.is_set-2.ensures, c.register_of-2.ensures, c.phrase-sync.ensures, c.named-2.ensures, c.choose-bit.ensures, c.say-3.ensures, c.say-2.ensures, c.is_set.ensures, c.register_of.ensures, c.phrase-palette.ensures, c.say.ensures, c.named.ensures)
