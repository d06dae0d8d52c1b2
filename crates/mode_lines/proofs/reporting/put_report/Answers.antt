-- `reporting::put_report` meets its contract. Assumes nothing.
use Prim.Native.Nat.{ℕ}
use mathlib.Core.List.{List, ◌++◌, append-nil}
use mathlib.Core.Path.{sym, subst}
use Rattle.std.specs.Prelude.{Result}
use Rattle.mode_file.specs.declared.into.LineSaid.{LineSaid}
use Rattle.mode_file.specs.declared.verdict.Verdict.{Verdict}
use Rattle.mode_file.specs.Verdicts.{code_said, position_said}
use Rattle.text.specs.Text.{newline}
use Rattle.mode_lines.specs.Kept.{Kept}
use Rattle.mode_lines.specs.Report.{front, left_text, report_line}
use Rattle.mode_lines.proofs.Laying.{kept_then}
use Rattle.mode_lines.proofs.reporting.put_report.Goals as goal

pub returns-in-Ok : goal.returns-in-Ok
unfolding report_line newline code_said position_said left_text
returns-in-Ok c =
    let args = c.args in
    let Line : Result LineSaid Verdict → List ℕ = λ said. (front args.number (code_said said) (position_said said) ++ left_text said args.read.file) ++ newline in
    subst (λ (said : Result LineSaid Verdict). Kept args.buffer.now args.at (Line said) c.keep.new.buffer c.keep.result) (sym c.in-Ok.is)
    (kept_then (kept_then c.put_front-at.ensures c.put_mode-at.ensures) c.keep.ensures.kept)

pub returns-in-Err : goal.returns-in-Err
unfolding report_line newline code_said position_said left_text
returns-in-Err c =
    let args = c.args in
    let Line : Result LineSaid Verdict → List ℕ = λ said. (front args.number (code_said said) (position_said said) ++ left_text said args.read.file) ++ newline in
    let put = c.put_front-at-in-Err in
    let whole = subst (λ (l : List ℕ). Kept args.buffer.now args.at l put.new.buffer put.result) (sym (append-nil (front args.number c.code.result c.position.result))) put.ensures in
    let said = rw (c.code.ensures, c.position.ensures) at whole in
    subst (λ (said : Result LineSaid Verdict). Kept args.buffer.now args.at (Line said) c.keep-in-Err.new.buffer c.keep-in-Err.result) (sym c.in-Err.is)
    (kept_then said c.keep-in-Err.ensures.kept)
