-- `line_noting` meets its contract: a line that is read marks MISC and the table's registers. Assumes nothing.
use mathlib.Core.Path.{◌≡◌, sym, ap, ◌∙◌}
use mathlib.Core.Bool.{Bool, true, false, cond, not}
use lib.Dec.{eqb}
use Rattle.file.specs.File.{register}
use Rattle.timing.specs.Table.{wide}
use Rattle.mode_file.specs.Verdicts.{code_said}
use Rattle.mode_file.proofs.Codes.{code-ok}
use Rattle.touched.specs.Noted.{noted_all}
use Rattle.touched.proofs.MarkedRegisters.{set_all, marked}
use Rattle.touched.proofs.SetIsSet.{is-set}
use Rattle.noting.specs.Noting.{timing_reaches, line_reaches}
use Rattle.noting.proofs.TimingMarked.{flags-marked}
use Rattle.noting.proofs.writing.line_noting.Goals as goal

pub returns-then-is_err : goal.returns-then-is_err
returns-then-is_err c =
    let args = c.args in
    let read = c.read_into-done in
    let other : eqb (code_said read.result.said) 0 ≡ false = code-ok read.result.said ∙ ap not (sym c.is_err.ensures.value ∙ c.if-is_err.true) in
    record {
      read = read.ensures;
      noted = sym (ap (λ (b : Bool). cond b (noted_all (line_reaches (wide args.whole)) args.touched) args.touched) other);
    }

pub returns : goal.returns
unfolding line_reaches noted_all wide register marked set_all
returns c =
    let args = c.args in
    let read = c.read_into-done in
    let done : eqb (code_said read.result.said) 0 ≡ true = code-ok read.result.said ∙ ap not (sym c.is_err.ensures.value ∙ c.if-is_err.false) in
    let flagged = flags-marked args.touched (is-set args.touched _ c.well_formed.1.1.0) in
    record {
      read = read.ensures;
      noted =
          c.with_timing.ensures
          ∙ ap (noted_all (timing_reaches c.is_wide-wide.result)) flagged
          ∙ ap (λ (b : Bool). noted_all (line_reaches b) args.touched) c.is_wide-wide.ensures
          ∙ sym (ap (λ (b : Bool). cond b (noted_all (line_reaches (wide args.whole)) args.touched) args.touched) done);
    }
