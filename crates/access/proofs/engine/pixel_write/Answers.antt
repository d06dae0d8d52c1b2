-- `pixel_write` meets its contract. Assumes nothing.
use mathlib.Core.Path.{sym, ◌∙◌}
use borrow.Author.Tests.{not-true, not-false}
use Rattle.access.specs.Access.{in_bank, entry_number, pixel_write}
use Rattle.file.specs.File.{seen, register}
use Rattle.access.proofs.engine.pixel_write.Goals as goal

pub returns-then-not-stores : goal.returns-then-not-stores
unfolding pixel_write seen
returns-then-not-stores c = rw (sym c.stores.ensures ∙ c.if-not-stores.true, c.marks-marks.ensures, c.after_write-after.ensures)

pub returns : goal.returns
unfolding pixel_write entry_number in_bank seen register
returns c = rw (sym c.stores.ensures ∙ c.if-not-stores.false, c.mixed.ensures, c.entry_number-entry.ensures, c.is_in_bank-bank.ensures, c.marks-marks.ensures, c.after_write-after.ensures)
