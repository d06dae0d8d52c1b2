-- `read_pixel` meets its contract. Assumes nothing.
use mathlib.Core.Path.{sym, ◌∙◌}
use Rattle.file.specs.Answers.{code_of, refused}
use Rattle.file.specs.Effects.{apply}
use Rattle.access.specs.Access.{answer_of_read, read_effect}
use Rattle.plain.specs.Told.{told, told_of_read}
use Rattle.plain.proofs.SeenWhole.{palette_seen}
use Rattle.plain.proofs.reading.read_pixel.Goals as goal

pub returns-then-not-is_palette_up : goal.returns-then-not-is_palette_up
unfolding told_of_read told answer_of_read read_effect refused code_of apply
returns-then-not-is_palette_up c = rw (sym (c.is_palette_up.ensures ∙ palette_seen c.args.whole) ∙ c.if-not-is_palette_up.true) c.leaving.ensures

pub returns : goal.returns
unfolding told_of_read told answer_of_read read_effect refused code_of apply
returns c =
    rw (
      sym (c.is_palette_up.ensures ∙ palette_seen c.args.whole) ∙ c.if-not-is_palette_up.false,
      c.with_state.ensures,
      c.component.ensures,
      c.stepping-after.ensures,
      c.marks.ensures,
      c.after_read.ensures,
    )
