-- `closing::timing_line` meets its contract. Assumes nothing.
use Rattle.summing.specs.Closing.{timing_line}
use Rattle.summing.proofs.closing.timing_line.Goals as goal

pub returns : goal.returns
unfolding timing_line
returns c = rw (c.change.ensures, c.phrase-after.ensures, c.decimal-2.ensures, c.from-2.ensures, c.phrase-before.ensures, c.decimal.ensures, c.from.ensures, c.column-line.ensures, c.told.ensures, c.number_label.ensures, c.blank.ensures)
