-- `line::add_word` meets its contract. Assumes nothing.
use mathlib.Core.List.{append-nil}
use borrow.Author.Tests.{lt-ltb, le-ltb}
use lib.ListN.{length, take}
use Rattle.file.specs.Readers.{ascii}
use Rattle.escaping.specs.Escaped.{escaped_text}
use Rattle.options.proofs.Added.{then-added}
use Rattle.options.specs.Lines.{shown}
use Rattle.options.proofs.line.add_word.Goals as goal

pub returns-then-word-gt64 : goal.returns-then-word-gt64
unfolding shown ascii
returns-then-word-gt64 c =
    let word = c.args.word.now in
    rw (lt-ltb 64 (length word) c.if-word-gt64.true) (then-added _ (escaped_text (take 64 word)) (ascii "..")
    c.add_escaped-after.ensures c.with_text.ensures)

pub returns : goal.returns
unfolding shown ascii
returns c =
    let word = c.args.word.now in
    rw (le-ltb 64 (length word) c.if-word-gt64.false, append-nil) c.add_escaped-after.ensures
