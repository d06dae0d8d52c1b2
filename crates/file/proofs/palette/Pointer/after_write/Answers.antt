-- `Pointer::after_write` meets its contract. Assumes nothing.
use mathlib.Core.Path.{sym, ◌∙◌}
use native.Mathlib.Omega.{arith}
use Rattle.file.specs.Palette.{addressed, moved, after_write}
use Rattle.file.proofs.Colours.{blue-left}
use Rattle.file.proofs.palette.Pointer.after_write.Goals as goal

pub returns-in-0 : goal.returns-in-0
unfolding after_write moved
returns-in-0 c = rw c.in-0.is

pub returns-in-1 : goal.returns-in-1
unfolding after_write moved
returns-in-1 c = rw c.in-1.is

pub returns-in_default : goal.returns-in_default
unfolding after_write moved addressed
returns-in_default c = c.addressed.ensures ∙ sym (blue-left c.args.self.next _ _ _ (omega arith) (omega arith))
