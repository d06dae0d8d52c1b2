-- `list` says 01's places and stored bits, by computing it on each chip. Assumes nothing.
use mathlib.Core.Path.{refl}
use Rattle.file.specs.Registers.{stored_table}
use Rattle.places.specs.Places.{places}
use Rattle.plain.specs.Rows.{row_of, say_all, bits_right, every_row}
use Rattle.plain.proofs.EitherChip.{by-chip}
use Rattle.plain.proofs.list.list.Goals as goal

pub returns : goal.returns
unfolding places stored_table row_of say_all bits_right every_row
returns c = record { places = by-chip _ refl refl; bits = by-chip _ tt tt }
