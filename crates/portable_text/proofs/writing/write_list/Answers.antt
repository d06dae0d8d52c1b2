-- `write_list` meets its contract. Assumes nothing.
use mathlib.Core.Path.{sym, ap, ◌∙◌}
use Rattle.file.specs.Answers.{code_of, refused}
use Rattle.portable.specs.Timing.{timing_of}
use Rattle.portable_text.proofs.ListsWritten.{list_refused, list_written, none_written, refused-else}
use Rattle.portable_text.proofs.writing.write_list.Goals as goal

pub returns-in_default : goal.returns-in_default
unfolding timing_of
returns-in_default c = none_written _ _ _ _ c.of.result (sym c.read_list.ensures ∙ c.in_default.is) c.of.ensures c.write_timing.ensures

pub returns-in-Done : goal.returns-in-Done
unfolding refused code_of
returns-in-Done c =
    list_written _ _ c.in-Some.timing _ c.write_timing-2.result (sym c.read_list.ensures ∙ c.in-Some.is) c.write_timing-2.ensures (ap refused c.in-Done.is)

pub returns-in_default-write_timing : goal.returns-in_default-write_timing
returns-in_default-write_timing c =
    let written = c.write_timing-2.ensures in
    list_refused _ _ c.in-Some.timing _ c.write_timing-2.result (sym c.read_list.ensures ∙ c.in-Some.is) written
    (refused-else _ c.in-Some.timing c.write_timing-2.result written.answered c.in_default-write_timing.not-Done)
