-- `split::take_line` meets its contract. Assumes nothing.
use mathlib.Core.Path.{sym, ◌∙◌}
use Rattle.mode_lines.proofs.Cut.{took-whole, took-begun}
use Rattle.mode_lines.proofs.split.take_line.Goals as goal

pub returns-in-Some-clause-took_line : goal.returns-in-Some-clause-took_line
returns-in-Some-clause-took_line c =
    (took-whole c.args.part.now c.args.kept.now c.args.count _ _ c.in-Some.size (sym c.newline.ensures ∙ c.in-Some.is) c.keep.ensures.kept).0

pub returns-in-None-clause-took_line : goal.returns-in-None-clause-took_line
returns-in-None-clause-took_line c =
    (took-begun c.args.part.now c.args.kept.now c.args.count _ _ (sym c.newline.ensures ∙ c.in-None.is) c.keep-in-None.ensures.kept).0
