-- `words::access_words` meets its contract. Assumes nothing.
use Rattle.explaining.specs.Words.{access_words}
use Rattle.explaining.proofs.words.access_words.Goals as goal

pub returns : goal.returns
unfolding access_words
returns c = rw (c.bytes_word-bytes.ensures, c.width_token-width.ensures, c.comma_word-comma.ensures, c.value_token-value.ensures, c.equals_word-equals.ensures, c.short-address.ensures, c.way_word-way.ensures, c.space_word-space.ensures)
