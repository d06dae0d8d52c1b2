-- `line::decimal` meets its contract. Assumes nothing.
use mathlib.Core.Path.{◌≡◌, ap, ◌∙◌}
use lib.ListN.{take}
use Rattle.text.specs.Text.{decimal}
use Rattle.text.specs.Fixed.{behind}
use Rattle.explaining.proofs.Spelled.{fewest-decimal}
use Rattle.explaining.proofs.line.decimal.Goals as goal

-- what was spelled is the number
spelled : (c : goal.After-with_text) → take c.decimal-count.result c.decimal-count.new.out ≡ decimal c.args.n
spelled c = c.decimal-count.ensures.digits ∙ fewest-decimal c.args.n c.decimal-count.result c.decimal-count.ensures.len

pub returns : goal.returns
returns c = c.with_text.ensures ∙ ap (behind _) (spelled c)
