-- `parts::pointer_words` meets its contract. Assumes nothing.
use Rattle.file.specs.Readers.{ascii}
use Rattle.explaining.specs.Explained.{pointer_words}
use Rattle.explaining.proofs.parts.pointer_words.Goals as goal

pub returns : goal.returns
unfolding pointer_words ascii
returns c = rw (c.none-none.ensures, c.byte_token-green.ensures, c.say-space.ensures, c.byte_token-red.ensures, c.say-held.ensures, c.colour_word-next.ensures, c.choose-mode.ensures, c.say-2.ensures, c.say.ensures, c.byte_token-address.ensures)
