-- `reading::read_words` meets its contract: the words that are left, read on, give the whole. Assumes nothing.
use Rattle.std.proofs.Common.{◌≡◌, drop, Ok}
use Rattle.options.specs.Asking.{folded, read_words}
use Rattle.options.specs.Words.{words_from}
use Rattle.options.proofs.reading.read_words.Given as goal

abbrev pub invariant-loop-at : goal.invariant-loop-at
invariant-loop-at l = folded l.words (Ok l.reading) (words_from l.start l.at (drop l.at l.words)) ≡ read_words l.words
