-- `write_pixel` meets its contract. Assumes nothing.
use mathlib.Core.Path.{sym, ◌∙◌}
use Rattle.access.specs.Access.{palette_up, write_answer, write_effect}
use Rattle.access.specs.Engine.{decided_write}
use Rattle.file.specs.Answers.{code_of, refused}
use Rattle.file.specs.File.{seen, register}
use Rattle.places.specs.EngineCells.{taken}
use Rattle.access.proofs.engine.write_pixel.Goals as goal

pub returns-then-is_palette_up : goal.returns-then-is_palette_up
unfolding decided_write write_answer write_effect taken refused code_of palette_up seen register
returns-then-is_palette_up c = rw (sym c.is_palette_up.ensures ∙ c.if-is_palette_up.true, ← c.pixel_write.ensures) c.done.ensures

pub returns-else-is_palette_up : goal.returns-else-is_palette_up
unfolding decided_write write_answer write_effect taken refused code_of palette_up seen register
returns-else-is_palette_up c = rw (sym c.is_palette_up.ensures ∙ c.if-is_palette_up.false) c.only.ensures
