-- `explain::pointer_line` meets its contract. Assumes nothing.
use Rattle.file.specs.Readers.{ascii}
use Rattle.explaining.specs.Explained.{pointer_line}
use Rattle.explaining.proofs.explain.pointer_line.Goals as goal

pub returns : goal.returns
unfolding pointer_line ascii
returns c = rw (c.part_line.ensures, c.pointer_words-2.ensures, c.pointer_words.ensures, c.pointer_code-2.ensures, c.pointer_code.ensures, c.phrase-label.ensures, c.say.ensures)
