-- `portable::table::read` meets its contract: the constants are Table 9-1. Assumes nothing.
use mathlib.Core.Path.{ap, ◌∙◌}
use Rattle.bits.specs.Encoded.{piece_of, meaning_of, table_of}
use Rattle.bits.specs.Numbers.{read_numbers}
use Rattle.portable.specs.Table.{table}
use Rattle.portable.proofs.Computed.{words-read}
use Rattle.portable.proofs.table.read.Goals as goal

pub returns : goal.returns
unfolding table_of piece_of meaning_of table
returns c =
    c.read_numbers.ensures
    ∙ words-read _ c.args.numbers.now c.requires.numbers_len
    ∙ ap (read_numbers table) c.widen.ensures
