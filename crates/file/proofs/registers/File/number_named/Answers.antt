-- `File::number_named` meets its contract. Assumes nothing.
use mathlib.Core.Path.{ap, ◌∙◌}
use Rattle.std.specs.Prelude.{ok_or}
use Rattle.file.specs.declared.answer.Answer.TheVariants.{NoRegister}
use Rattle.file.specs.Readers.{ascii, read_number, name_table}
use Rattle.file.specs.Registers.{registers}
use Rattle.file.proofs.registers.File.number_named.Goals as goal

pub returns : goal.returns
unfolding read_number name_table registers ascii
returns c = c.ok_or.ensures.value ∙ ap (λ found. ok_or found NoRegister) c.place_of.ensures
