-- `read_pixel` meets its contract. Assumes nothing.
use Prim.Native.Nat.{ℕ}
use mathlib.Core.List.{List}
use mathlib.Core.Path.{refl, sym, ap, ◌∙◌}
use lib.ListN.{get_or}
use Rattle.file.specs.declared.answer.Answer.TheVariants.{PaletteDown}
use Rattle.file.specs.Answers.{code_of, value_of}
use Rattle.file.specs.File.{seen, register}
use Rattle.access.specs.Access.{palette_up}
use Rattle.quick.specs.Smalls.{smalls_of}
use Rattle.quick.proofs.Parts.{says}
use Rattle.quick.proofs.PixelsTurned.{read_down, pixel-read}
use Rattle.quick.proofs.pixels.read_pixel.Goals as goal

pub returns-then-is_palette_up : goal.returns-then-is_palette_up
unfolding palette_up seen register smalls_of
returns-then-is_palette_up c =
    λ s e.
    let t = c.shown-said.ensures in
    pixel-read c.args.registers.now s (sym c.is_palette_up.ensures ∙ c.if-is_palette_up.true) _ c.shown-said.result
    (t.0, t.1, t.2, t.3 ∙ ap (λ (l : List ℕ). get_or l 0 0) e, t.4 ∙ ap (λ (l : List ℕ). get_or l 2 0) e, t.5)
    (c.step_read.ensures s e)

pub returns : goal.returns
unfolding palette_up seen register code_of value_of
returns c =
    λ s e.
    read_down c.args.registers.now s (sym c.is_palette_up.ensures ∙ c.if-is_palette_up.false) _ c.told.result (says PaletteDown c.told.ensures refl refl) e
