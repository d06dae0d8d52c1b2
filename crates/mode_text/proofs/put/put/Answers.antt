-- `mode_text::put::put` meets its contract. Assumes nothing.
use Rattle.text.proofs.Stores.{had-room}
use Rattle.mode_text.proofs.put.put.Goals as goal

pub returns : goal.returns
returns c = had-room c.requires c.plain_text.ensures
