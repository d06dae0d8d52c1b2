-- 'Explain': what is told of a trace, record by record, and with '--summary' in all.
-- Assumes nothing.
use Rattle.std.specs.Prelude.{ℕ, suc, Bool, cond, List, [], ◌∷◌, ◌++◌}
use Rattle.file.specs.declared.chip.Chip.{Chip}
use Rattle.file.specs.declared.registers.File.{File}
use Rattle.file.specs.File.{power_on}
use Rattle.access.specs.declared.record.Item.{Item}
use Rattle.access.specs.Access.{access_item}
use Rattle.trace.specs.Records.{items, item_count}
use Rattle.explaining.specs.Explained.{explained}
use Rattle.summing.specs.declared.summary.Summary.{Summary}
use Rattle.summing.specs.Closing.{summary_text}
use Rattle.summing.specs.Summed.{summed, taken_all, taken_in}
use Rattle.summing.specs.Together.{moved_together}

-- of a record, by its number and the file before it: its explanation, or where the trace is summed what moved together
unfoldable pub record_told : Bool → ℕ → File → Item → List ℕ
record_told sums number f i = cond sums (moved_together number f i) (explained number f i)

-- of items, from a number on
unfoldable pub records_told : Bool → ℕ → File → List Item → List ℕ
records_told sums number f [] = []
records_told sums number f (i ∷ is) = record_told sums number f i ++ records_told sums (suc number) (access_item f i).file is

-- of a part of a trace, from a number and a file on; a fragment at its end is a record too
unfoldable pub part_told : Bool → ℕ → File → List ℕ → List ℕ
part_told sums number f part = records_told sums number f (items (item_count part) part)

-- the summary after a record, and after a part of a trace; where nothing is summed it stays
unfoldable pub record_summed : Bool → Summary → File → Item → Summary
record_summed sums s f i = cond sums (taken_in s f i) s

unfoldable pub part_summed : Bool → Summary → File → List ℕ → Summary
part_summed sums s f part = cond sums (taken_all s f (items (item_count part) part)) s

-- what stands at the end
unfoldable pub closing : Bool → Summary → List ℕ
closing sums s = cond sums (summary_text s) []

-- of a whole trace: from power-on, and numbered from 0, as a replay is
unfoldable pub trace_told : Bool → Chip → List ℕ → List ℕ
trace_told sums chip trace = part_told sums 0 (power_on chip) trace ++ closing sums (summed (power_on chip) (items (item_count trace) trace))
