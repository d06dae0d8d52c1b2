-- `mode_text::put::put_name` meets its contract. Assumes nothing.
use Rattle.text.proofs.Stores.{then-text}
use Rattle.modes.specs.Form.{header}
use Rattle.mode_text.proofs.put.put_name.Goals as goal

pub returns : goal.returns
unfolding header
returns c =
    then-text (then-text c.put-at.ensures c.put-at-2.ensures) c.put.ensures
