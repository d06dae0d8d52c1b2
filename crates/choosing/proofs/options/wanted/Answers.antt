-- `wanted` meets its contract. Assumes nothing.
use Rattle.std.proofs.Common.{sym, ◌∙◌, refl}
use Rattle.choosing.specs.Choosing.{wanted, wanted_by}
use Rattle.choosing.proofs.options.wanted.Goals as goal

pub returns-then-is : goal.returns-then-is
unfolding wanted wanted_by
returns-then-is c = rw (sym c.is.ensures ∙ c.if-is.true) c.chip_named.ensures

pub returns-then-is-2 : goal.returns-then-is-2
unfolding wanted wanted_by
returns-then-is-2 c = rw (sym c.is.ensures ∙ c.if-is.false, sym c.is-else-is.ensures ∙ c.if-is-2.true) c.engine_named.ensures

pub returns-else-is-2 : goal.returns-else-is-2
unfolding wanted wanted_by
returns-else-is-2 c = rw (sym c.is.ensures ∙ c.if-is.false, sym c.is-else-is.ensures ∙ c.if-is-2.false) refl
