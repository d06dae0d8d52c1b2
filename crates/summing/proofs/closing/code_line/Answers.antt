-- `closing::code_line` meets its contract. Assumes nothing.
use Rattle.file.specs.Readers.{ascii}
use Rattle.summing.specs.Closing.{code_line}
use Rattle.summing.proofs.closing.code_line.Goals as goal

pub returns : goal.returns
unfolding code_line ascii
returns c = rw (c.choose.ensures, c.told.ensures, c.code_words.ensures, c.blank.ensures, c.count_line-line.ensures, c.counted.ensures, c.say-many.ensures, c.say-one.ensures, c.phrase-name.ensures, c.decimal.ensures, c.from.ensures, c.say.ensures)
