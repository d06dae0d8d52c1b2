-- `shown_in` meets its contract. Assumes nothing.
use mathlib.Core.Path.{sym, ap, ◌∙◌}
use native.Mathlib.Omega.{arith}
use Rattle.file.specs.declared.palette.Colour.{Colour}
use Rattle.file.specs.File.{seen, register}
use Rattle.file.specs.Palette.{component}
use Rattle.file.proofs.Typed.{palette-count, bank-count, address-byte}
use Rattle.access.specs.Access.{in_bank, shown_in}
use Rattle.access.proofs.EntriesNamed.{entry-in-bank, entry-in-palette}
use Rattle.access.proofs.access.shown_in.Goals as goal

pub offset_bounds-whole-number : goal.offset_bounds-whole-number
offset_bounds-whole-number c = record { fits = omega (arith, rw c.if-bank.true at c.entry_number-number.ensures) }

pub bounds-whole-number : goal.bounds-whole-number
bounds-whole-number c = omega (arith, rw c.if-bank.true at c.entry_number-number.ensures)

pub offset_bounds-whole-number-else-bank : goal.offset_bounds-whole-number-else-bank
offset_bounds-whole-number-else-bank c = record { fits = omega (arith, rw c.if-bank.false at c.entry_number-number.ensures, address-byte c.args.whole _ c.well_formed.0) }

pub bounds-whole-number-else-bank : goal.bounds-whole-number-else-bank
bounds-whole-number-else-bank c = omega (arith, rw c.if-bank.false at c.entry_number-number.ensures, address-byte c.args.whole _ c.well_formed.0)

pub returns-then-bank : goal.returns-then-bank
unfolding shown_in in_bank seen register
returns-then-bank c = c.component.ensures
    ∙ ap (λ (k : Colour). component k c.args.whole.state.pointer.next)
    (entry-in-bank c.args.whole c.entry_number-number.result _ (sym c.is_in_bank-bank.ensures ∙ c.if-bank.true) (rw c.if-bank.true at c.entry_number-number.ensures)
    (omega (arith, rw c.if-bank.true at c.entry_number-number.ensures, bank-count c.args.whole _ c.well_formed.0)))

pub returns-else-bank : goal.returns-else-bank
unfolding shown_in in_bank seen register
returns-else-bank c = c.component-else-bank.ensures
    ∙ ap (λ (k : Colour). component k c.args.whole.state.pointer.next)
    (entry-in-palette c.args.whole c.entry_number-number.result _ (sym c.is_in_bank-bank.ensures ∙ c.if-bank.false) (rw c.if-bank.false at c.entry_number-number.ensures)
    (omega (arith, rw c.if-bank.false at c.entry_number-number.ensures, palette-count c.args.whole _ c.well_formed.0, address-byte c.args.whole _ c.well_formed.0)))
