-- `mode_text::put::put_numbers` meets its contract. Assumes nothing.
use Rattle.text.proofs.Stores.{had-room}
use Rattle.mode_text.proofs.Joined.{spaced-decimals, wrote_as}
use Rattle.mode_text.proofs.put.put_numbers.Goals as goal

pub returns : goal.returns
returns c =
    let numbers = c.args.numbers.now in
    wrote_as (spaced-decimals numbers) (had-room (rw (spaced-decimals numbers) c.requires) c.spaced_numbers.ensures)
