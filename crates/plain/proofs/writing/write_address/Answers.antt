-- `write_address` meets its contract. Assumes nothing.
use Rattle.file.specs.Answers.{code_of, refused}
use Rattle.file.specs.Effects.{apply}
use Rattle.access.specs.Access.{write_answer, write_effect}
use Rattle.plain.specs.Told.{told, write_told}
use Rattle.plain.proofs.writing.write_address.Goals as goal

pub returns : goal.returns
unfolding write_told told write_answer write_effect refused code_of apply
returns c = rw (c.with_state.ensures, c.pointing.ensures, c.addressed-pointer.ensures)
