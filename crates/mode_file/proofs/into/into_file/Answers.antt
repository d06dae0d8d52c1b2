-- `mode_file::into::into_file` meets its contract. Assumes nothing.
use mathlib.Core.Path.{sym, ◌∙◌}
use Rattle.mode_file.specs.Into.{read_parsed, read_result}
use Rattle.mode_file.proofs.into.into_file.Goals as goal

pub returns-then-not-is_sound : goal.returns-then-not-is_sound
unfolding read_result
returns-then-not-is_sound c = sym (rw (sym c.is_sound.ensures ∙ c.if-not-is_sound.true))

pub returns-in-Ok : goal.returns-in-Ok
unfolding read_result read_parsed
returns-in-Ok c = c.with_mode.ensures ∙ sym (rw (sym c.is_sound.ensures ∙ c.if-not-is_sound.false, c.in-Ok.is))

pub returns-in-Err : goal.returns-in-Err
unfolding read_result read_parsed
returns-in-Err c = sym (rw (sym c.is_sound.ensures ∙ c.if-not-is_sound.false, c.in-Err.is))
