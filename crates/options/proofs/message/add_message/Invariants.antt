-- `message::add_message` meets its contract: what is left of the message, added to the line, is the whole added to it. Assumes nothing.
use Rattle.std.proofs.Common.{◌≡◌, drop}
use Rattle.text.specs.Fixed.{behind}
use Rattle.options.specs.Messages.{filled}
use Rattle.options.proofs.message.add_message.Given as goal

abbrev pub invariant-loop-b : goal.invariant-loop-b
invariant-loop-b l =
    behind l.after (filled l.refused l.words (drop l.b-index l.message)) ≡ behind l.initial.after (filled l.refused l.words l.message)
