-- `words::is_option` meets its contract. Assumes nothing.
use Rattle.std.proofs.Common.{length, refl}
use borrow.Author.Tests.{lt-ltb, le-ltb}
use Rattle.options.specs.Words.{is_option}
use Rattle.options.proofs.words.is_option.Goals as goal

pub returns-then-word-gt1 : goal.returns-then-word-gt1
unfolding is_option
returns-then-word-gt1 c = rw (lt-ltb 1 (length c.args.word.now) c.if-word-gt1.true) refl

pub returns-else-word-gt1 : goal.returns-else-word-gt1
unfolding is_option
returns-else-word-gt1 c = rw (le-ltb 1 (length c.args.word.now) c.if-word-gt1.false) refl
