-- `number::many_places` meets its contract: the digits counted and those of the rest are the number's. Assumes nothing.
use Prim.Native.Nat.{◌+◌, ◌≤◌}
use mathlib.Core.Path.{◌≡◌}
use Rattle.text.specs.Text.{decimal_places}
use Rattle.text.proofs.number.many_places.Given as goal

abbrev pub invariant-loop-rest : goal.invariant-loop-rest
invariant-loop-rest l = (decimal_places l.n l.n + 1 ≡ l.count + decimal_places l.rest l.rest) × (l.count + l.rest ≤ l.n + 1)

abbrev pub decreases-loop-rest : goal.decreases-loop-rest
decreases-loop-rest l = l.rest
