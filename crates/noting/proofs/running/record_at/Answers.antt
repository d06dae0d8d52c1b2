-- `record_at` meets its contract. Assumes nothing.
use Prim.Native.Nat.{ℕ}
use mathlib.Core.Path.{ap, ◌∙◌}
use mathlib.Core.List.{List}
use lib.ListN.{take}
use Rattle.trace.specs.Records.{record_of}
use Rattle.trace.proofs.RecordBytes.{part_left}
use Rattle.noting.proofs.running.record_at.Goals as goal

pub returns : goal.returns
returns c =
    c.record_of.ensures ∙ ap (λ (l : List ℕ). record_of (take 8 l)) (part_left c.args.bytes.now c.args.at)
