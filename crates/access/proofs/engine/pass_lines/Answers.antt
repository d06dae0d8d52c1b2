-- `pass_lines` meets its contract. Assumes nothing.
use Rattle.file.specs.Answers.{code_of, refused}
use Rattle.places.specs.EngineCells.{taken}
use Rattle.access.specs.Access.{write_answer, write_effect}
use Rattle.access.specs.Engine.{decided_write}
use Rattle.access.proofs.engine.pass_lines.Goals as goal

pub returns : goal.returns
unfolding decided_write write_answer write_effect taken refused code_of
returns c = rw (← c.line_after.ensures) c.done.ensures
