-- `words::found_words` meets its contract. Assumes nothing.
use Rattle.file.specs.Readers.{ascii}
use Rattle.explaining.specs.Words.{found_words}
use Rattle.explaining.proofs.words.found_words.Goals as goal

pub returns-in-Some : goal.returns-in-Some
unfolding found_words ascii
returns-in-Some c = rw (c.in-Some.is, c.place_words.ensures)

pub returns-in-None : goal.returns-in-None
unfolding found_words ascii
returns-in-None c = rw (c.in-None.is, c.phrase.ensures, c.say.ensures)
