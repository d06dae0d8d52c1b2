-- `meaning::done_words` meets its contract. Assumes nothing.
use Rattle.file.specs.Readers.{ascii}
use Rattle.access.specs.Checks.{is_write, is_passing, carries}
use Rattle.explaining.specs.Words.{done_words}
use Rattle.explaining.proofs.meaning.done_words.Goals as goal

pub returns : goal.returns
unfolding done_words carries is_write is_passing ascii
returns c = rw (c.choose-2.ensures, c.code_words.ensures, c.phrase-read.ensures, c.say.ensures, c.hex-what.ensures, c.from.ensures, c.choose.ensures)
