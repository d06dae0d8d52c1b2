-- `pass_lines` meets its contract. Assumes nothing.
use Rattle.file.specs.Answers.{code_of, refused}
use Rattle.file.specs.Effects.{apply}
use Rattle.access.specs.Access.{write_answer, write_effect}
use Rattle.plain.specs.Told.{told, write_told}
use mathlib.Core.Path.{◌∙◌}
use Rattle.plain.proofs.SeenWhole.{after_seen}
use Rattle.plain.proofs.writing.pass_lines.Goals as goal

pub returns : goal.returns
unfolding write_told told write_answer write_effect refused code_of apply
returns c = rw (c.with_state.ensures, c.passing.ensures, c.line_after-line.ensures ∙ after_seen c.args.whole c.args.lines)
