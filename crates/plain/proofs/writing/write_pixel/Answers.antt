-- `write_pixel` meets its contract. Assumes nothing.
use mathlib.Core.Path.{sym, ◌∙◌}
use Rattle.file.specs.Answers.{code_of, refused}
use Rattle.file.specs.Effects.{apply}
use Rattle.access.specs.Access.{write_answer, write_effect}
use Rattle.plain.specs.Told.{told, write_told, pixel_written}
use Rattle.plain.proofs.SeenWhole.{palette_seen}
use Rattle.plain.proofs.writing.write_pixel.Goals as goal

pub returns-then-not-is_palette_up : goal.returns-then-not-is_palette_up
unfolding write_told told write_answer write_effect refused code_of apply
returns-then-not-is_palette_up c = rw (sym (c.is_palette_up.ensures ∙ palette_seen c.args.whole) ∙ c.if-not-is_palette_up.true) c.leaving.ensures

pub returns : goal.returns
unfolding write_told told write_answer write_effect pixel_written refused code_of apply
returns c = rw (sym (c.is_palette_up.ensures ∙ palette_seen c.args.whole) ∙ c.if-not-is_palette_up.false, c.store_pixel.ensures)
