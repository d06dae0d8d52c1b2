-- `load` meets its contract. Assumes nothing.
use mathlib.Core.Path.{sym, ap₂, ◌∙◌}
use borrow.Author.Tests.{eq-eqb, ne_eqb}
use Rattle.std.specs.Prelude.{Ok}
use Rattle.image.specs.Parts.{sound_in}
use Rattle.image.specs.Image.{image_count, loads, loaded_from}
use Rattle.image.proofs.saving.load.Goals as goal

pub returns-then-image-ne-IMAGE : goal.returns-then-image-ne-IMAGE
unfolding loaded_from loads
returns-then-image-ne-IMAGE c = rw (ne_eqb _ image_count c.if-image-ne-IMAGE.true)

pub returns-then-not-is_headed : goal.returns-then-not-is_headed
unfolding loaded_from loads
returns-then-not-is_headed c = rw (eq-eqb _ image_count c.if-image-ne-IMAGE.false, sym c.is_headed.ensures ∙ c.if-not-is_headed.true)

pub returns-then-not-sound : goal.returns-then-not-sound
unfolding loaded_from loads
returns-then-not-sound c =
    rw (
      eq-eqb _ image_count c.if-image-ne-IMAGE.false,
      sym c.is_headed.ensures ∙ c.if-not-is_headed.false,
      sym (c.is_file-sound.ensures ∙ ap₂ sound_in c.registers_in-registers.ensures c.rest_in-rest.ensures) ∙ c.if-not-sound.true,
    )

pub returns : goal.returns
unfolding loaded_from loads
returns c =
    let words = c.registers_in-registers in
    let bytes = c.rest_in-rest in
    rw (
      eq-eqb _ image_count c.if-image-ne-IMAGE.false,
      sym c.is_headed.ensures ∙ c.if-not-is_headed.false,
      sym (c.is_file-sound.ensures ∙ ap₂ sound_in words.ensures bytes.ensures) ∙ c.if-not-sound.false,
    )
    (λ i. Ok (record { registers = words.ensures i; rest = bytes.ensures i; set = c.set_after.ensures i }))
