-- `numbered::named_numbers` meets its contract: antt looks each name up in the table. Assumes nothing.
use mathlib.Core.Path.{refl}
use Rattle.file.specs.Named.{in_code, numbers_in_code}
use Rattle.file.specs.Readers.{ascii, name_table, number_of, same}
use Rattle.file.specs.Registers.{registers}
use Rattle.file.proofs.numbered.named_numbers.Goals as goal

pub returns : goal.returns
unfolding in_code numbers_in_code ascii name_table number_of same registers
returns c = refl
