-- `run_whole` meets its contract: the loop keeps `Going`. Assumes nothing.
use Prim.Native.Nat.{◌-◌}
use Rattle.quick.specs.Smalls.{state_of}
use Rattle.trace.proofs.RunLoop.{together, Going}
use Rattle.trace.proofs.running.run_whole.Given as goal

abbrev pub invariant-loop-n : goal.invariant-loop-n
invariant-loop-n l =
    Going (together l.initial.parts.registers l.initial.palette l.initial.bank (state_of l.tables.chip l.initial.parts.line l.initial.parts.smalls)) l.trace l.initial.replies l.count l.replies l.parts.registers l.palette l.bank l.parts.smalls l.parts.codes l.tables.chip l.parts.line l.n

abbrev pub decreases-loop-n : goal.decreases-loop-n
decreases-loop-n l =
    l.count - l.n
