-- `reporting::capital` meets its contract. Assumes nothing.
use mathlib.Core.Path.{sym}
use borrow.Author.Tests.{le-ltb, lt-ltb}
use Rattle.text.specs.Text.{capital as capitalOf}
use Rattle.mode_lines.proofs.reporting.capital.Goals as goal

pub returns-then-d-lt10 : goal.returns-then-d-lt10
unfolding capitalOf
returns-then-d-lt10 c = sym (rw (lt-ltb _ _ c.if-d-lt10.true))

pub returns-else-d-lt10 : goal.returns-else-d-lt10
unfolding capitalOf
returns-else-d-lt10 c = sym (rw (le-ltb _ _ c.if-d-lt10.false))
