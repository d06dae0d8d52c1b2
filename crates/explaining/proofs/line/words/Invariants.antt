-- `line::words` meets its contract: what is left, behind the line, is the whole behind it. Assumes nothing.
use mathlib.Core.Path.{◌≡◌}
use lib.ListN.{drop}
use Rattle.text.specs.Fixed.{behind}
use Rattle.explaining.specs.Lines.{up_to_dot}
use Rattle.explaining.proofs.line.words.Given as goal

abbrev pub invariant-loop-b : goal.invariant-loop-b
invariant-loop-b l = behind l.after (up_to_dot (drop l.b-index l.b-items)) ≡ behind l.initial.after (up_to_dot l.b-items)
