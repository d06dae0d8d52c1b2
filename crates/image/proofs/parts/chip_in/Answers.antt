-- `chip_in` meets its contract. Assumes nothing.
use borrow.Author.Tests.{eq-eqb, ne_eqb}
use Rattle.image.specs.Parts.{chip_in}
use Rattle.image.proofs.parts.chip_in.Goals as goal

pub returns-then-byte-eq0 : goal.returns-then-byte-eq0
unfolding chip_in
returns-then-byte-eq0 c = rw (eq-eqb c.args.byte 0 c.if-byte-eq0.true)

pub returns-else-byte-eq0 : goal.returns-else-byte-eq0
unfolding chip_in
returns-else-byte-eq0 c = rw (ne_eqb c.args.byte 0 c.if-byte-eq0.false)
