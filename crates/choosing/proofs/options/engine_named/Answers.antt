-- `engine_named` meets its contract: the two names, one after the other. Assumes nothing.
use Rattle.std.proofs.Common.{sym, ◌∙◌, refl}
use Rattle.choosing.specs.Choosing.{engine_named}
use Rattle.choosing.proofs.options.engine_named.Goals as goal

pub returns-then-is : goal.returns-then-is
unfolding engine_named
returns-then-is c = rw (sym c.is.ensures ∙ c.if-is.true) refl

pub returns-then-is-2 : goal.returns-then-is-2
unfolding engine_named
returns-then-is-2 c = rw (sym c.is.ensures ∙ c.if-is.false, sym c.is-else-is.ensures ∙ c.if-is-2.true) refl

pub returns-else-is-2 : goal.returns-else-is-2
unfolding engine_named
returns-else-is-2 c = rw (sym c.is.ensures ∙ c.if-is.false, sym c.is-else-is.ensures ∙ c.if-is-2.false) refl
