-- `line::token` meets its contract. Assumes nothing.
use Rattle.file.specs.Readers.{ascii}
use Rattle.text.specs.Fixed.{behind}
use Rattle.explaining.specs.Lines.{hex_of, token_text}
use Rattle.explaining.proofs.Behind.{then-behind}
use Rattle.explaining.proofs.line.token.Goals as goal

pub returns-in-Words : goal.returns-in-Words
unfolding token_text
returns-in-Words c = rw c.in-Words.is c.words.ensures

pub returns-in-Name : goal.returns-in-Name
unfolding token_text
returns-in-Name c = rw c.in-Name.is c.name.ensures

pub returns-in-Decimal : goal.returns-in-Decimal
unfolding token_text
returns-in-Decimal c = rw c.in-Decimal.is c.decimal.ensures

pub returns-in-Hex : goal.returns-in-Hex
unfolding token_text behind ascii
returns-in-Hex c = rw c.in-Hex.is (then-behind c.args.line (hex_of _ _) (ascii "h") c.hex.ensures c.with_byte.ensures)
