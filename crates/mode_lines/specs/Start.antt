-- The file that each line is read into.
-- Assumes nothing.
use Rattle.std.specs.Prelude.{Bool, false, cond}
use Rattle.file.specs.declared.chip.Chip.TheVariants.{Gd5464}
use Rattle.file.specs.declared.effect.Effect.TheVariants.{Store}
use Rattle.file.specs.declared.registers.File.{File}
use Rattle.file.specs.Effects.{apply}
use Rattle.file.specs.File.{power_on}
use Rattle.file.specs.Names.{CR1B}

-- the file at power-on; a wide one has CR1B[5]=1, with which the ends of blanking have all of their bits
unfoldable pub start_file : Bool → File
start_file wide = cond wide (apply (Store false CR1B 0x20 0x20) (power_on Gd5464)) (power_on Gd5464)
