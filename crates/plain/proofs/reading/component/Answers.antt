-- `component` meets its contract. Assumes nothing.
use mathlib.Core.Path.{refl, sym, ap, ◌∙◌}
use native.Mathlib.Omega.{arith}
use Rattle.file.specs.declared.palette.Colour.{Colour}
use Rattle.file.specs.Palette.{component}
use Rattle.file.proofs.Typed.{palette-count, bank-count, address-byte}
use Rattle.access.specs.Access.{shown_in}
use Rattle.access.proofs.EntriesNamed.{entry-in-bank, entry-in-palette}
use Rattle.plain.proofs.SeenWhole.{bank_seen}
use Rattle.plain.proofs.reading.component.Goals as goal

pub returns-then-is_in_bank : goal.returns-then-is_in_bank
unfolding shown_in
returns-then-is_in_bank c =
    let whole = c.args.whole in
    c.component.ensures
    ∙ ap (λ (k : Colour). component k whole.state.pointer.next)
    (entry-in-bank whole _ _ (sym (c.is_in_bank.ensures ∙ bank_seen _) ∙ c.if-is_in_bank.true) refl (omega (arith, bank-count whole _ c.well_formed.0)))

pub returns : goal.returns
unfolding shown_in
returns c =
    let whole = c.args.whole in
    c.component-2.ensures
    ∙ ap (λ (k : Colour). component k whole.state.pointer.next)
    (entry-in-palette whole _ _ (sym (c.is_in_bank.ensures ∙ bank_seen _) ∙ c.if-is_in_bank.false) refl
    (omega (arith, palette-count whole _ c.well_formed.0, address-byte whole _ c.well_formed.0)))
