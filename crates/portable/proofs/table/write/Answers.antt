-- `portable::table::write` meets its contract: the constants are Table 9-1. Assumes nothing.
use mathlib.Core.Path.{sym, ap, ◌∙◌}
use Rattle.std.proofs.Common.{rules}
use lib.ListN.{length}
use Rattle.bits.specs.Encoded.{piece_of, meaning_of, table_of}
use Rattle.bits.specs.Numbers.{write_numbers}
use Rattle.bits.proofs.Tables.{written-length}
use Rattle.portable.specs.Table.{table}
use Rattle.portable.proofs.Bytes.{written-bytes}
use Rattle.portable.proofs.table.write.Goals as goal

pub narrow-requires : goal.narrow-requires
unfolding table_of piece_of meaning_of table
narrow-requires c =
    let numbers = c.args.numbers.now in
    let bytes = c.args.bytes.now in
    let wrote = c.write_numbers.ensures ∙ ap (write_numbers table numbers) c.widen.ensures in record {
      bytes_len = sym (ap length wrote ∙ written-length table numbers bytes);
      by_index = λ k. rw wrote (written-bytes numbers bytes c.requires (λ j. search rules) k);
    }

pub returns : goal.returns
unfolding table_of piece_of meaning_of table
returns c =
    c.narrow.ensures
    ∙ c.write_numbers.ensures
    ∙ ap (write_numbers table c.args.numbers.now) c.widen.ensures
