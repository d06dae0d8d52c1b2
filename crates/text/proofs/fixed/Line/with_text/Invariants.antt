-- `Line::with_text` meets its contract: what is left, behind the line, is the whole behind it. Assumes nothing.
use mathlib.Core.Path.{◌≡◌}
use lib.ListN.{drop}
use Rattle.text.specs.Fixed.{behind}
use Rattle.text.proofs.fixed.Line.with_text.Given as goal

abbrev pub invariant-loop-b : goal.invariant-loop-b
invariant-loop-b g l = behind l.after (drop l.b-index l.text) ≡ behind l.initial.after l.text
