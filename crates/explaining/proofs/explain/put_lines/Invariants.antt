-- `explain::put_lines` meets its contract: with the lines that are left stored, the buffer holds them all. Assumes nothing.
use Prim.Native.Nat.{ℕ, ◌+◌, ◌*◌, ◌≤◌, ◌<◌}
use mathlib.Core.Path.{◌≡◌}
use lib.ListN.{length}
use Rattle.explaining.specs.Lines.{Line, line_room}
use Rattle.explaining.proofs.PutLines.{Lining}
use Rattle.explaining.proofs.explain.put_lines.Given as goal

abbrev pub invariant-loop-k : goal.invariant-loop-k
invariant-loop-k g l =
    (l.at ≤ l.initial.at + line_room * l.k)
    × (length l.buffer ≡ length l.initial.buffer)
    × ((of : ℕ → Line) → ((k : ℕ) (m : Line) → k < l.count → goal.F-post g l.line k m → m ≡ of k) → Lining of l.count l.initial.buffer l.initial.at l.buffer l.at l.k)
