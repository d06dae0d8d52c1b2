-- `explain::marks_line` meets its contract. Assumes nothing.
use Rattle.file.specs.Readers.{ascii}
use Rattle.explaining.specs.Explained.{marks_line}
use Rattle.explaining.proofs.explain.marks_line.Goals as goal

pub returns : goal.returns
unfolding marks_line ascii
returns c = rw (c.part_line.ensures, c.marks_words-2.ensures, c.marks_words.ensures, c.phrase-label.ensures, c.say.ensures)
