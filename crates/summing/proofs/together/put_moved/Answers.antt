-- `together::put_moved` meets its contract. Assumes nothing.
use mathlib.Core.Path.{sym, ◌∙◌}
use native.Mathlib.Omega.{arith}
use Rattle.summing.proofs.Counts.{moved_told, none_told}
use Rattle.summing.proofs.together.put_moved.Goals as goal

pub returns-then-is_together : goal.returns-then-is_together
returns-then-is_together c =
    let args = c.args in
    let put = c.put_together in record {
      wrote = moved_told args.case args.buffer.now _ args.at _ (sym c.is_together.ensures ∙ c.if-is_together.true) put.ensures.wrote;
      upper_bound = put.ensures.upper_bound;
    }

pub returns : goal.returns
returns c =
    let args = c.args in record {
      wrote = none_told args.case args.buffer.now args.at (sym c.is_together.ensures ∙ c.if-is_together.false);
      upper_bound = omega arith;
    }
