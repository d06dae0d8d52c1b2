-- `message::told_wrong` meets its contract. Assumes nothing.
use Rattle.file.specs.Readers.{ascii}
use Rattle.options.proofs.Shown.{framed}
use Rattle.options.proofs.message.told_wrong.Goals as goal

pub returns : goal.returns
unfolding ascii
returns c =
    framed c.args.refused c.args.words.now c.blank.ensures c.with_text-line.ensures (rw c.message.ensures at c.add_message-line.ensures) c.with_byte.ensures
