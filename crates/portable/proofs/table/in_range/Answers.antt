-- `portable::table::in_range` meets its contract: the constants are Table 9-1. Assumes nothing.
use Rattle.bits.specs.Encoded.{piece_of, meaning_of, table_of}
use Rattle.portable.specs.Table.{table}
use Rattle.portable.proofs.table.in_range.Goals as goal

pub returns : goal.returns
unfolding table_of piece_of meaning_of table
returns c = c.all_in_range.ensures
