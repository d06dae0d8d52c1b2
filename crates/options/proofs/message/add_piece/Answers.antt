-- `message::add_piece` meets its contract. Assumes nothing.
use Rattle.std.proofs.Common.{arith}
use borrow.Author.Tests.{ne_eqb}
use Rattle.options.specs.Messages.{piece_of}
use Rattle.text.specs.Fixed.{behind}
use Rattle.options.proofs.message.add_piece.Goals as goal

pub returns-in-37 : goal.returns-in-37
unfolding piece_of
returns-in-37 c = rw c.in-37.is (rw c.name_of.ensures at c.with_text.ensures)

pub returns-in-64 : goal.returns-in-64
unfolding piece_of
returns-in-64 c = rw c.in-64.is (rw c.word_at.ensures at c.add_word.ensures)

pub returns-in_default : goal.returns-in_default
unfolding piece_of behind
returns-in_default c = rw (ne_eqb c.args.b 37 (λ e. omega arith), ne_eqb c.args.b 64 (λ e. omega arith)) c.with_byte.ensures
