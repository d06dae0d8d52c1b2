-- `together::is_together` meets its contract. Assumes nothing.
use mathlib.Core.Path.{ap, sym, ◌∙◌}
use Rattle.std.specs.Prelude.{ltb}
use Rattle.summing.specs.Together.{together}
use Rattle.summing.proofs.Counts.{moved_counted}
use Rattle.summing.proofs.together.is_together.Goals as goal

pub returns : goal.returns
unfolding together
returns c = ap (ltb 1) (c.moved_count.ensures ∙ sym (moved_counted c.args.case.old c.args.case.new))
