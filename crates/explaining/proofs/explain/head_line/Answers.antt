-- `explain::head_line` meets its contract. Assumes nothing.
use Rattle.explaining.specs.Explained.{head_line}
use Rattle.explaining.proofs.explain.head_line.Goals as goal

pub returns : goal.returns
unfolding head_line
returns c = rw (c.told-5.ensures, c.answer_words.ensures, c.column-line-4.ensures, c.told-4.ensures, c.phrase-2.ensures, c.decimal-2.ensures, c.column-line-3.ensures, c.told-3.ensures, c.looked_words.ensures, c.column-line-2.ensures, c.told-2.ensures, c.item_words.ensures, c.code-code.ensures, c.column-line.ensures, c.told.ensures, c.phrase.ensures, c.decimal.ensures, c.blank.ensures)
