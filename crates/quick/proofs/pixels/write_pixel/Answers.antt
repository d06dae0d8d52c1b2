-- `write_pixel` meets its contract. Assumes nothing.
use Prim.Native.Nat.{ℕ}
use mathlib.Core.List.{List}
use mathlib.Core.Path.{◌≡◌, refl, sym, ap, ◌∙◌}
use native.Mathlib.Omega.{arith}
use borrow.Author.Tests.{not-true, not-false}
use lib.ListN.{get_or, set}
use Rattle.file.specs.declared.answer.Answer.TheVariants.{Done, PaletteDown}
use Rattle.file.specs.Answers.{code_of, value_of}
use Rattle.file.specs.File.{seen, register}
use Rattle.file.specs.Palette.{mixed}
use Rattle.file.specs.State.{stepping}
use Rattle.access.specs.Access.{palette_up, in_bank}
use Rattle.quick.specs.Smalls.{smalls_of}
use Rattle.quick.proofs.Parts.{says}
use Rattle.quick.proofs.PixelsTurned.{small-byte, write-blue, blue-stores, write-down, hold-red, hold-green, paints-blue}
use Rattle.quick.proofs.pixels.write_pixel.Goals as goal

pub returns-then-not-is_palette_up : goal.returns-then-not-is_palette_up
unfolding palette_up seen register code_of value_of
returns-then-not-is_palette_up c =
    λ s e.
    write-down c.args.registers.now s c.args.byte (small-byte _ (omega (arith, c.ranges.byte))) (sym c.is_palette_up.ensures ∙ c.if-not-is_palette_up.true) _ c.told.result
    (says PaletteDown c.told.ensures refl refl) e

pub returns-in-0 : goal.returns-in-0
unfolding palette_up seen register code_of value_of smalls_of
returns-in-0 c =
    λ s e.
    hold-red c.args.registers.now s c.args.byte (small-byte _ (omega (arith, c.ranges.byte))) (sym c.is_palette_up.ensures ∙ c.if-not-is_palette_up.false) _ c.told-in-0.result
    (sym (ap (λ (l : List ℕ). get_or l 2 0) e) ∙ c.in-0.is) (says (Done 0) c.told-in-0.ensures refl refl)
    (ap (λ (l : List ℕ). set (set (set l 5 0) 2 1) 3 c.args.byte) e)

pub returns-in-1 : goal.returns-in-1
unfolding palette_up seen register code_of value_of smalls_of
returns-in-1 c =
    λ s e.
    hold-green c.args.registers.now s c.args.byte (small-byte _ (omega (arith, c.ranges.byte))) (sym c.is_palette_up.ensures ∙ c.if-not-is_palette_up.false) _ c.told-in-1.result
    (sym (ap (λ (l : List ℕ). get_or l 2 0) e) ∙ c.in-1.is) (says (Done 0) c.told-in-1.ensures refl refl)
    (ap (λ (l : List ℕ). set (set (set l 5 1) 2 2) 4 c.args.byte) e)

pub returns-in_default : goal.returns-in_default
unfolding palette_up in_bank seen register smalls_of stepping mixed
returns-in_default c =
    λ s e.
    let t = c.painted-said.ensures in
    let byte = c.args.byte in
    let red : s.pointer.next ≡ 0 → ⊥ = λ z. c.in_default.in_default-own.rest.0.1 (ap (λ (l : List ℕ). get_or l 2 0) e ∙ z) in
    let green : s.pointer.next ≡ 1 → ⊥ = λ z. c.in_default.in_default-own.rest.1 (ap (λ (l : List ℕ). get_or l 2 0) e ∙ z) in
    paints-blue c.args.registers.now s byte (small-byte _ (omega (arith, c.ranges.byte))) (sym c.is_palette_up.ensures ∙ c.if-not-is_palette_up.false) _ c.painted-said.result
    (blue-stores s red green)
    (t.0, t.1, t.2 ∙ rw c.is_in_bank.ensures, t.3 ∙ ap (λ (l : List ℕ). get_or l 0 0) e, t.4 ∙ ap (λ (l : List ℕ). record { red = get_or l 3 0; green = get_or l 4 0; blue = byte }) e, t.5)
    (c.rise.ensures (stepping s.pointer 2 s) (ap (λ (l : List ℕ). set l 5 2) e) ∙ write-blue s red green byte)
