-- `store_pixel` meets its contract. Assumes nothing.
use mathlib.Core.Path.{sym, ◌∙◌}
use Rattle.file.specs.Effects.{apply}
use Rattle.access.specs.Access.{pixel_write}
use Rattle.plain.specs.Told.{pixel_written}
use Rattle.plain.proofs.writing.store_pixel.Goals as goal

pub returns-then-stores : goal.returns-then-stores
unfolding pixel_written pixel_write apply
returns-then-stores c =
    rw (
      sym c.stores.ensures ∙ c.if-stores.true,
      c.with_state.ensures,
      c.store_entry.ensures,
      c.mixed.ensures,
      c.stepping-after.ensures,
      c.marks.ensures,
      c.after_write.ensures,
    )

pub returns : goal.returns
unfolding pixel_written pixel_write apply
returns c =
    rw (
      sym c.stores.ensures ∙ c.if-stores.false,
      c.with_state-2.ensures,
      c.stepping-after.ensures,
      c.marks.ensures,
      c.after_write.ensures,
    )
