-- `words::looked_words` meets its contract. Assumes nothing.
use Rattle.file.specs.Readers.{ascii}
use Rattle.explaining.specs.Words.{looked_words}
use Rattle.explaining.proofs.words.looked_words.Goals as goal

pub returns : goal.returns
unfolding looked_words ascii
returns c = rw (c.choose.ensures, c.choose-seen.ensures, c.found_words.ensures, c.phrase-other.ensures, c.say-2.ensures, c.phrase-unseen.ensures, c.say.ensures)
