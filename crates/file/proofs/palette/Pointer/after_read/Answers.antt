-- `Pointer::after_read` meets its contract. Assumes nothing.
use mathlib.Core.Path.{sym, ◌∙◌}
use native.Mathlib.Omega.{arith}
use Rattle.file.specs.Palette.{addressed, moved, after_read}
use Rattle.file.proofs.Colours.{blue-left}
use Rattle.file.proofs.palette.Pointer.after_read.Goals as goal

pub returns-in-0 : goal.returns-in-0
unfolding after_read moved
returns-in-0 c = rw c.in-0.is

pub returns-in-1 : goal.returns-in-1
unfolding after_read moved
returns-in-1 c = rw c.in-1.is

pub returns-in_default : goal.returns-in_default
unfolding after_read moved addressed
returns-in_default c = c.addressed.ensures ∙ sym (blue-left c.args.self.next _ _ _ (omega arith) (omega arith))
