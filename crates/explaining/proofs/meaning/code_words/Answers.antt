-- `meaning::code_words` meets its contract. Assumes nothing.
use Rattle.explaining.specs.Words.{code_words}
use Rattle.explaining.proofs.meaning.code_words.Goals as goal

pub returns : goal.returns
unfolding code_words
returns c = rw (c.choose.ensures, c.phrase.ensures, c.code_word.ensures, c.locked_words.ensures)
