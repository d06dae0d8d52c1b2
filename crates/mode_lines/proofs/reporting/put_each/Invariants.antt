-- `reporting::put_each` meets its contract. Assumes nothing.
use mathlib.Core.List.{[]}
use mathlib.Core.Path.{◌≡◌}
use lib.ListN.{length, take}
use Rattle.text.specs.Text.{spaced}
use Rattle.mode_lines.specs.Kept.{Kept}
use Rattle.mode_lines.proofs.reporting.put_each.Given as goal

abbrev pub invariant-loop-n : goal.invariant-loop-n
invariant-loop-n l =
    Kept l.initial.buffer l.initial.at (spaced [] (take l.n-index l.numbers)) l.buffer l.at × (length l.buffer ≡ length l.initial.buffer)
