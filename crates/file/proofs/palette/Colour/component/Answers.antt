-- `Colour::component` meets its contract. Assumes nothing.
use mathlib.Core.Path.{sym}
use native.Mathlib.Omega.{arith}
use Rattle.file.specs.Palette.{component}
use Rattle.file.proofs.Colours.{blue-left}
use Rattle.file.proofs.palette.Colour.component.Goals as goal

pub returns-in-0 : goal.returns-in-0
unfolding component
returns-in-0 c = rw c.in-0.is

pub returns-in-1 : goal.returns-in-1
unfolding component
returns-in-1 c = rw c.in-1.is

pub returns-in_default : goal.returns-in_default
unfolding component
returns-in_default c = sym (blue-left c.args.number _ _ _ (omega arith) (omega arith))
