-- `meaning::half_words` meets its contract. Assumes nothing.
use Rattle.file.specs.Readers.{ascii}
use Rattle.explaining.specs.Words.{half_words}
use Rattle.explaining.proofs.meaning.half_words.Goals as goal

pub returns : goal.returns
unfolding half_words ascii
returns c = rw (c.phrase.ensures, c.short.ensures, c.named.ensures, c.choose-bit.ensures, c.say-2.ensures, c.say.ensures, c.is_set.ensures, c.register_of.ensures)
