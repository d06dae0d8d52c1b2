-- `read_pixel` meets its contract. Assumes nothing.
use Rattle.access.proofs.SeenFiles.{none-shown}
use mathlib.Core.Path.{sym, ◌∙◌}
use Rattle.access.specs.Access.{palette_up, answer_of_read, read_effect}
use Rattle.access.specs.Engine.{decided_read}
use Rattle.file.specs.Answers.{code_of, refused}
use Rattle.file.specs.File.{seen, register}
use Rattle.places.specs.Profile.{reads_pixel}
use Rattle.access.proofs.engine.read_pixel.Goals as goal

pub returns-then-is_palette_up : goal.returns-then-is_palette_up
unfolding decided_read answer_of_read read_effect reads_pixel refused code_of palette_up seen register
returns-then-is_palette_up c = rw (sym c.is_palette_up.ensures ∙ c.if-is_palette_up.true, none-shown c.args.registers.now c.args.state, c.after_read.ensures, c.marks.ensures)

pub returns : goal.returns
unfolding decided_read answer_of_read read_effect reads_pixel refused code_of palette_up seen register
returns c = rw (sym c.is_palette_up.ensures ∙ c.if-is_palette_up.false) c.only.ensures
