-- `run` meets its contract: the loop keeps `Held`. Assumes nothing.
use Prim.Native.Nat.{◌-◌}
use Rattle.plain.proofs.RunByItems.{Held}
use Rattle.plain.proofs.running.run.Given as goal

abbrev pub invariant-loop-n : goal.invariant-loop-n
invariant-loop-n l = Held l.initial.file l.trace l.initial.replies l.count l.replies l.file l.n

abbrev pub decreases-loop-n : goal.decreases-loop-n
decreases-loop-n l = l.count - l.n
