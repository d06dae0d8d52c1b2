-- `moves::moved_bits` meets its contract: the table is computed. Assumes nothing.
use mathlib.Core.Path.{refl}
use Rattle.bits.specs.Pieces.{piece_reach, width}
use Rattle.bits.specs.Reach.{pieces_reach}
use Rattle.timing.specs.Table.{table}
use Rattle.explaining.specs.Moves.{moved_bits, moved_from, moved_table, origin, read_bits, source, sources, start_of, switched}
use Rattle.explaining.proofs.moves.moved_bits.Goals as goal

pub returns : goal.returns
unfolding moved_table moved_from moved_bits read_bits pieces_reach piece_reach origin source sources start_of switched width table
returns c = refl
