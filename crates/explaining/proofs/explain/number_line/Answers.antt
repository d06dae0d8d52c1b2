-- `explain::number_line` meets its contract. Assumes nothing.
use mathlib.Core.Path.{sym, ◌∙◌}
use Rattle.file.specs.File.{register}
use Rattle.timing.specs.Table.{wide}
use Rattle.explaining.specs.Explained.{number_line}
use Rattle.explaining.proofs.MovedBits.{no_number}
use Rattle.explaining.proofs.explain.number_line.Goals as goal

pub returns-then-k-ge-NUMBERS : goal.returns-then-k-ge-NUMBERS
returns-then-k-ge-NUMBERS c = c.blank.ensures ∙ sym (no_number c.args.case c.args.k c.if-k-ge-NUMBERS.true)

pub returns : goal.returns
unfolding number_line wide register
returns c = rw (c.part_line.ensures, c.number_label.ensures, c.phrase-last.ensures, c.decimal-2.ensures, c.from-2.ensures, c.phrase-first.ensures, c.decimal.ensures, c.from.ensures, c.may_move-shown.ensures, c.is_wide-wide.ensures)
