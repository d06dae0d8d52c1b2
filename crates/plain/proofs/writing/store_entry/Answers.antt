-- `store_entry` meets its contract. Assumes nothing.
use mathlib.Core.Path.{refl, sym, ◌∙◌}
use Rattle.file.specs.Effects.{paint_in}
use Rattle.file.specs.File.{with_palette, with_bank}
use Rattle.access.specs.Access.{entry_number}
use Rattle.plain.proofs.SeenWhole.{bank_seen}
use Rattle.plain.proofs.writing.store_entry.Goals as goal

pub returns-then-is_in_bank : goal.returns-then-is_in_bank
unfolding paint_in with_palette with_bank entry_number
returns-then-is_in_bank c = rw (sym (c.is_in_bank.ensures ∙ bank_seen c.args.whole) ∙ c.if-is_in_bank.true) refl

pub returns-else-is_in_bank : goal.returns-else-is_in_bank
unfolding paint_in with_palette with_bank entry_number
returns-else-is_in_bank c = rw (sym (c.is_in_bank.ensures ∙ bank_seen c.args.whole) ∙ c.if-is_in_bank.false) refl
