-- `also` meets its contract; beyond the last nothing is marked. Assumes nothing.
use Prim.Native.Nat.{◌≤◌}
use native.Mathlib.Omega.{arith}
use lib.ListN.{length}
use lib.Seq.{set_out}
use Rattle.touched.specs.Noted.{also}
use Rattle.touched.proofs.reached.also.Goals as goal
use Rattle.touched.proofs.reached.also.Goals.{else-more-via-then-more+else-number, else-more-via-else-more}

pub returns-then-number : goal.returns-then-number
unfolding also
returns-then-number g c = rw c.if-more.true

pub returns-else-more : goal.returns-else-more
unfolding also
returns-else-more g c =
    elim c.else-more.branch [
      | else-more-via-then-more+else-number w ↦
          let beyond : length c.args.marks ≤ c.args.number = omega arith in
          rw (w.if-more.true, set_out)
      | else-more-via-else-more w ↦ rw w.if-more.false
    ]
