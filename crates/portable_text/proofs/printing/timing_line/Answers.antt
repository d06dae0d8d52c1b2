-- `timing_line` meets its contract: the reader's code is 0 or 12. Assumes nothing.
use Rattle.std.proofs.Common.{ℕ, List, [], Bor, ap, ◌∙◌}
use Rattle.text.specs.Text.{numbers_line}
use Rattle.text.proofs.Standing.{lined-as}
use Rattle.portable_text.proofs.Lines.{done-line, refused-line}
use Rattle.portable_text.proofs.printing.timing_line.Goals as goal
use Rattle.portable_text.proofs.printing.timing_line.Goals.{in-Done, in_default}

pub returns : goal.returns
returns c =
    let numbers = c.numbers.result in
    let line = λ (word : Bor (List ℕ)). numbers_line word.now [] numbers in
    let read = c.read_timing-read in
    let told = lined-as c.args.at (line c.match-read.code) in
    elim c.match-read.branch [
      | in-Done w ↦ told _ _ _ _ (ap line w.code-is ∙ done-line _ read.result numbers read.ensures c.numbers.ensures _ w.in-Done.is) c.numbers_line.ensures
      | in_default w ↦ told _ _ _ _ (ap line w.code-is ∙ refused-line _ read.result numbers read.ensures c.numbers.ensures w.in_default.not-Done) c.numbers_line.ensures
    ]
