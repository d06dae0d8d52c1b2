-- `parts::marks_words` meets its contract. Assumes nothing.
use Rattle.file.specs.Readers.{ascii}
use Rattle.explaining.specs.Explained.{marks_words}
use Rattle.explaining.proofs.parts.marks_words.Goals as goal

pub returns : goal.returns
unfolding marks_words ascii
returns c = rw (c.phrase.ensures, c.colour_word.ensures, c.choose-way.ensures, c.say-2.ensures, c.say.ensures)
