-- `run_whole_noting` meets its contract: the loop keeps `HeldNoting`. Assumes nothing.
use Prim.Native.Nat.{◌-◌}
use Rattle.trace.proofs.RunLoop.{together}
use Rattle.noting.proofs.RunReaches.{HeldNoting}
use Rattle.noting.proofs.running.run_whole_noting.Given as goal

abbrev pub invariant-loop-n : goal.invariant-loop-n
invariant-loop-n l =
    HeldNoting l.initial.set (together l.initial.registers l.initial.palette l.initial.bank l.initial.state) l.trace l.initial.replies l.count l.replies l.registers l.palette l.bank l.state l.set l.n

abbrev pub decreases-loop-n : goal.decreases-loop-n
decreases-loop-n l =
    l.count - l.n
