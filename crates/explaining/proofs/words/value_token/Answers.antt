-- `words::value_token` meets its contract. Assumes nothing.
use Rattle.explaining.specs.Words.{value_token}
use Rattle.explaining.proofs.words.value_token.Goals as goal

pub returns : goal.returns
unfolding value_token
returns c = rw (c.choose.ensures, c.none.ensures, c.has_value.ensures, c.hex-value.ensures, c.value_digits.ensures)
