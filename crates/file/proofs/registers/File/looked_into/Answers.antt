-- `File::looked_into` meets its contract. Assumes nothing.
use mathlib.Core.Path.{sym, ◌∙◌}
use Rattle.file.specs.Readers.{if_sound}
use Rattle.file.proofs.registers.File.looked_into.Goals as goal

pub returns-then-is_sound : goal.returns-then-is_sound
unfolding if_sound
returns-then-is_sound c = rw (sym c.is_sound.ensures ∙ c.if-is_sound.true)

pub returns-else-is_sound : goal.returns-else-is_sound
unfolding if_sound
returns-else-is_sound c = rw (sym c.is_sound.ensures ∙ c.if-is_sound.false)
