-- `words::width_token` meets its contract. Assumes nothing.
use Rattle.explaining.specs.Words.{width_token}
use Rattle.explaining.proofs.words.width_token.Goals as goal

pub returns : goal.returns
unfolding width_token
returns c = rw (c.choose.ensures, c.none.ensures, c.decimal.ensures, c.has_width.ensures)
