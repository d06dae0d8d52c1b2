-- `words::item_words` meets its contract. Assumes nothing.
use Rattle.file.specs.Readers.{ascii}
use Rattle.explaining.specs.Words.{item_words}
use Rattle.explaining.proofs.words.item_words.Goals as goal

pub returns : goal.returns
unfolding item_words ascii
returns c = rw (c.choose.ensures, c.record_words.ensures, c.phrase-fragment.ensures, c.say.ensures)
