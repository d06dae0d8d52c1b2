-- `parts::part_line` meets its contract. Assumes nothing.
use borrow.Author.Tests.{not-false, not-true}
use Rattle.explaining.specs.Explained.{part_line}
use Rattle.explaining.proofs.parts.part_line.Goals as goal

pub returns-then-not-shown : goal.returns-then-not-shown
unfolding part_line
returns-then-not-shown c = rw (not-true c.args.shown c.if-not-shown.true-raw, c.blank.ensures)

pub returns : goal.returns
unfolding part_line
returns c = rw (not-false c.args.shown c.if-not-shown.false-raw, c.change.ensures, c.told-2.ensures, c.column-start.ensures, c.told.ensures, c.phrase.ensures, c.decimal.ensures, c.blank-2.ensures)
