-- `pick` meets its contract. Invariant: of the cells gone by so far, that of the place is unknown. Assumes nothing.
use Prim.Native.Nat.{◌<◌, ◌≤◌}
use mathlib.Core.Path.{◌≡◌}
use lib.ListN.{get_or}
use Rattle.places.specs.EngineCells.{nothing_held}
use Rattle.host.proofs.finding.pick.Given as goal

abbrev pub invariant-loop-at : goal.invariant-loop-at
invariant-loop-at l = l.step ≡ 1 → l.from ≤ l.wanted → l.wanted < l.at → get_or l.cells l.wanted 0 ≡ nothing_held
