-- `into::read_into` meets its contract: the line's reader tells, and `into_file` answers. Assumes nothing.
use mathlib.Core.Path.{sym, ap, ◌∙◌}
use Rattle.std.specs.Prelude.{Result}
use Rattle.mode_file.specs.declared.into.ReadLine.{ReadLine}
use Rattle.mode_file.specs.declared.verdict.Verdict.{Verdict}
use Rattle.mode_file.specs.Into.{answered, read_with, refused_line}
use Rattle.mode_file.proofs.into.read_into.Goals as goal

pub returns-in-Ok : goal.returns-in-Ok
unfolding read_with answered
returns-in-Ok c =
    record {
      parsed = c.parse.result;
      told = c.parse.ensures;
      answers = ap (λ (r : Result ReadLine Verdict). answered r c.args.file) (sym c.in-Ok.is ∙ c.into_file.ensures);
    }

pub returns-in-Err : goal.returns-in-Err
unfolding read_with answered refused_line
returns-in-Err c =
    record {
      parsed = c.parse.result;
      told = c.parse.ensures;
      answers = ap (λ (r : Result ReadLine Verdict). answered r c.args.file) (sym c.in-Err.is ∙ c.into_file.ensures);
    }
