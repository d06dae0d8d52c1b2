-- `powered` meets its contract. Assumes nothing.
use borrow.Author.Tests.{eq-eqb, ne_eqb}
use Rattle.image.specs.Parts.{chip_in}
use Rattle.host.proofs.powered.Goals as goal

pub returns-then-chip-eq0 : goal.returns-then-chip-eq0
unfolding chip_in
returns-then-chip-eq0 c = rw (eq-eqb c.args.chip 0 c.if-chip-eq0.true) c.power_on.ensures

pub returns : goal.returns
unfolding chip_in
returns c = rw (ne_eqb c.args.chip 0 c.if-chip-eq0.false) c.power_on-2.ensures
