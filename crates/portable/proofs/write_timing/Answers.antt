-- `portable::write_timing` meets its contract, by what its tests and calls found. Assumes nothing.
use mathlib.Core.Path.{sym, ap, ◌∙◌}
use Rattle.bits.specs.Numbers.{all_in_range, write_numbers}
use Rattle.portable.specs.Table.{table}
use Rattle.portable.specs.Timing.{locked}
use Rattle.portable.proofs.Cases.{write-short, write-locked, write-outside, write_done}
use Rattle.portable.proofs.write_timing.Goals as goal

pub returns-then-bytes-ne-COUNT : goal.returns-then-bytes-ne-COUNT
returns-then-bytes-ne-COUNT c = write-short c.args.bytes.now c.args.timing c.if-bytes-ne-COUNT.true

pub returns-then-is_locked : goal.returns-then-is_locked
unfolding locked
returns-then-is_locked c =
    let args = c.args in
    write-locked args.bytes.now args.timing c.if-bytes-ne-COUNT.false (sym c.is_locked.ensures ∙ c.if-is_locked.true)

pub returns-then-not-in_range : goal.returns-then-not-in_range
unfolding locked
returns-then-not-in_range c =
    let args = c.args in
    write-outside args.bytes.now args.timing c.if-bytes-ne-COUNT.false (sym c.is_locked.ensures ∙ c.if-is_locked.false)
    (ap (all_in_range table) (sym c.numbers-numbers.ensures) ∙ sym c.in_range.ensures ∙ c.if-not-in_range.true)

pub returns : goal.returns
unfolding locked
returns c =
    let args = c.args in
    write_done args.bytes.now args.timing _ c.if-bytes-ne-COUNT.false (sym c.is_locked.ensures ∙ c.if-is_locked.false)
    (ap (all_in_range table) (sym c.numbers-numbers.ensures) ∙ sym c.in_range.ensures ∙ c.if-not-in_range.false)
    (c.write.ensures ∙ ap (λ ns. write_numbers table ns args.bytes.now) c.numbers-numbers.ensures)
