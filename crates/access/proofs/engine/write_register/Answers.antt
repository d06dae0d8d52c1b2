-- `write_register` meets its contract. Assumes nothing.
use mathlib.Core.Path.{sym, ◌∙◌}
use Rattle.access.specs.Access.{write_answer, write_effect}
use Rattle.access.specs.Engine.{decided_write}
use Rattle.file.specs.Answers.{code_of, refused}
use Rattle.places.specs.EngineCells.{taken}
use Rattle.access.proofs.engine.write_register.Goals as goal

pub returns-then-is_locked_out : goal.returns-then-is_locked_out
unfolding decided_write write_answer refused code_of
returns-then-is_locked_out c = rw (sym c.is_locked_out.ensures ∙ c.if-is_locked_out.true) c.only.ensures

pub returns : goal.returns
unfolding decided_write write_answer write_effect taken refused code_of
returns c = rw (sym c.is_locked_out.ensures ∙ c.if-is_locked_out.false, ← c.reach_in.ensures) c.done.ensures
