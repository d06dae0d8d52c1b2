-- `is_empty` meets its contract. Assumes nothing.
use Prim.Native.Nat.{ℕ}
use mathlib.Core.Path.{ap}
use lib.Dec.{eqb}
use Rattle.touched.specs.Things.{is_empty}
use Rattle.touched.proofs.set.Touched.is_empty.Goals as goal

pub returns : goal.returns
unfolding is_empty
returns c = ap (λ (n : ℕ). eqb n 0) c.size.ensures
