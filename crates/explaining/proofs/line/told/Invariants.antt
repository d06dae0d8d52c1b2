-- `line::told` meets its contract: the tokens that are left, behind the line, are all of them behind it. Assumes nothing.
use mathlib.Core.Path.{◌≡◌}
use lib.ListN.{drop}
use Rattle.text.specs.Fixed.{behind}
use Rattle.explaining.specs.Lines.{tokens_text}
use Rattle.explaining.proofs.line.told.Given as goal

abbrev pub invariant-loop-spoken : goal.invariant-loop-spoken
invariant-loop-spoken l = behind l.after (tokens_text (drop l.spoken-index l.spoken-items)) ≡ behind l.initial.after (tokens_text l.spoken-items)
