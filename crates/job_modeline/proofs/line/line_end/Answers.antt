-- `line_end` meets its contract. Assumes nothing.
use Prim.Native.Nat.{ℕ}
use mathlib.Core.Path.{sym, ap, ◌∙◌, subst}
use Rattle.std.specs.Prelude.{Result, Err}
use Rattle.std.proofs.lemmas.Result.{err_from_is_err_and}
use Rattle.mode_file.specs.declared.verdict.Verdict.{Verdict}
use Rattle.mode_lines.specs.ClockLine.{LineOf}
use Rattle.job_modeline.specs.OneLine.{LinePut}
use Rattle.job_modeline.proofs.LinesPut.{line-none, line-put}
use Rattle.job_modeline.proofs.line.line_end.Goals as goal

pub returns-in_err-size-clause-line_put : goal.returns-in_err-size-clause-line_put
returns-in_err-size-clause-line_put c =
    let args = c.args in
    let p = err_from_is_err_and c.from_residual.result c.from_residual.ensures.1 in
    let line = subst (λ (r : Result ℕ Verdict). LineOf args.file args.name.now args.mhz.now args.out.now c.line_of.new.buffer r) c.in_err-size.was c.line_of.ensures.line_of in
    subst (λ (r : Result ℕ Verdict). LinePut args.file args.name.now args.mhz.now args.out.now c.line_of.new.buffer r) (sym (p.1 ∙ ap Err p.2))
    (line-none args.file args.name.now args.mhz.now args.out.now c.line_of.new.buffer _ line)

pub returns-clause-line_put : goal.returns-clause-line_put
returns-clause-line_put c =
    let args = c.args in
    let line = subst (λ (r : Result ℕ Verdict). LineOf args.file args.name.now args.mhz.now args.out.now c.line_of.new.buffer r) c.in_ok-size.was c.line_of.ensures.line_of in
    line-put args.file args.name.now args.mhz.now args.out.now _ _ line _ c.keep.result c.keep.ensures.kept
