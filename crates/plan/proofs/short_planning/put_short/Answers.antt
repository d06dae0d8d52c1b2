-- `put_short` meets its contract. Assumes nothing.
use mathlib.Core.Path.{sym, ◌∙◌}
use native.Mathlib.Omega.{arith}
use Rattle.short_roads.specs.ShortPlan.{short_records}
use Rattle.plan.proofs.Appending.{append-none}
use Rattle.plan.proofs.short_planning.put_short.Goals as goal

pub returns-then-is_empty : goal.returns-then-is_empty
unfolding short_records
returns-then-is_empty c = rw (sym c.is_empty.ensures ∙ c.if-is_empty.true) (append-none c.args.buffer.now c.args.at)

pub put_stages-requires : goal.put_stages-requires
unfolding short_records
put_stages-requires c = omega (arith, rw (sym c.is_empty.ensures ∙ c.if-is_empty.false) at c.requires)

pub returns : goal.returns
unfolding short_records
returns c = rw (sym c.is_empty.ensures ∙ c.if-is_empty.false) c.put_stages.ensures
