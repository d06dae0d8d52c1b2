-- `closing::count_line` meets its contract. Assumes nothing.
use Rattle.summing.specs.Closing.{count_line}
use Rattle.summing.proofs.closing.count_line.Goals as goal

pub returns : goal.returns
unfolding count_line
returns c = rw (c.column-2.ensures, c.told-2.ensures, c.column.ensures, c.told.ensures, c.blank.ensures)
