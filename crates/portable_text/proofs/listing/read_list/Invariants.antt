-- `read_list` meets its contract: what is left of the text, scanned, gives the whole. Assumes nothing.
use mathlib.Core.Path.{◌≡◌}
use lib.ListN.{drop}
use Rattle.portable_text.specs.Scan.{begun, scanned}
use Rattle.portable_text.proofs.listing.read_list.Given as goal

abbrev pub invariant-loop-b : goal.invariant-loop-b
invariant-loop-b l = scanned l.scan (drop l.b-index l.text) ≡ scanned begun l.text
