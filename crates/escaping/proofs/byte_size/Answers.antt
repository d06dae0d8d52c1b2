-- `byte_size` meets its contract. Assumes nothing.
use mathlib.Core.Path.{sym, ◌∙◌}
use Rattle.escaping.proofs.Sizes.{plain_size, escape-size}
use Rattle.escaping.proofs.byte_size.Goals as goal

pub returns-then-is_plain : goal.returns-then-is_plain
returns-then-is_plain c = sym (plain_size _ (sym c.is_plain.ensures ∙ c.if-is_plain.true))

pub returns-else-is_plain : goal.returns-else-is_plain
returns-else-is_plain c = sym (escape-size _ (sym c.is_plain.ensures ∙ c.if-is_plain.false))
