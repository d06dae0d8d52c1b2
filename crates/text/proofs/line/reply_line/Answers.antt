-- `line::reply_line` meets its contract. Assumes nothing.
use mathlib.Core.Path.{◌∙◌}
use lib.ListN.{get_or}
use Rattle.text.proofs.Lines.{line_made}
use Rattle.text.proofs.Replies.{value-bytes}
use Rattle.text.proofs.Stores.{then-text}
use Rattle.text.proofs.line.reply_line.Goals as goal

pub returns : goal.returns
returns c = λ number spelled.
    let args = c.args in
    let value = c.two-value.ensures ∙ value-bytes args.replies.now args.from in
    let wrote = rw spelled at (then-text c.store-at.ensures c.behind_number.ensures) in
    rw value at (rw (line_made number (get_or args.replies.now args.from 0) c.two-value.result) at wrote)
