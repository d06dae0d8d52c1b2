-- `parts::report_part` meets its contract: each turn takes some bytes of the part. Assumes nothing.
use Prim.Native.Nat.{◌-◌}
use lib.ListN.{length}
use Rattle.mode_lines.proofs.Going.{Going}
use Rattle.mode_lines.proofs.parts.report_part.Given as goal

abbrev pub invariant-loop-done : goal.invariant-loop-done
invariant-loop-done l = Going l.file l.number l.count l.part l.initial.kept l.initial.reports l.last l.kept l.reports l.done

abbrev pub decreases-loop-done : goal.decreases-loop-done
decreases-loop-done l = length l.part - l.done.used
