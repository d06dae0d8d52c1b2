-- `count_some` counts a part of the input: a turn. Assumes nothing.
use native.Mathlib.Omega.{arith}
use Rattle.clocks.proofs.TurnsReport.{part-told, turn-done}
use Rattle.clocks.proofs.course.count_some.Goals as goal

pub unreachable-requires : goal.unreachable-requires
unreachable-requires c =
    part-told c.args.before _ _ _ c.report_part.result c.requires.input_len_bound c.requires.countable (omega arith) c.report_part.ensures c.in_default.not-Ok

pub returns : goal.returns
returns c =
    turn-done c.args.before _ _ _ c.report_part.result c.requires.input_len_bound c.requires.countable (omega arith) c.report_part.ensures c.in-Ok.part c.in-Ok.is _ c.going_behind.ensures
