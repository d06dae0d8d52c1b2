-- `codes_of` meets its contract. Assumes nothing.
use Rattle.quick.specs.Classes.{codes_of}
use Rattle.quick.proofs.classes.codes_of.Goals as goal

pub returns : goal.returns
unfolding codes_of
returns c = rw (c.code_where.ensures, c.code_where-3.ensures, c.code_where-2.ensures, c.code_where-5.ensures, c.code_where-4.ensures, c.code_where-6.ensures)
