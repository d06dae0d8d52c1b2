-- `serve` meets its contract. Assumes nothing.
use Prim.Native.Nat.{ℕ}
use mathlib.Core.Path.{ap₂, ◌∙◌}
use mathlib.Core.List.{List}
use Rattle.file.specs.File.{seen}
use Rattle.access.specs.Engine.{decided_by}
use Rattle.access.proofs.DecidedByTables.{decided-by-tables}
use Rattle.trace.proofs.ServedAccess.{serves}
use Rattle.host.proofs.serving.serve.Goals as goal

pub returns : goal.returns
unfolding seen
returns c =
    let registers = c.args.registers.now in
    let state = c.args.state in
    let asked = c.args.asked in
    serves registers state asked c.decide-decision.result
    (c.decide-decision.ensures
    ∙ ap₂ (λ (cells stored : List ℕ). decided_by cells stored (seen registers state) asked) c.cells-cells.ensures c.stored-stored.ensures
    ∙ decided-by-tables (seen registers state) c.requires asked)
    c.answered-before.result c.answered-before.ensures _ c.put_effect.result c.put_effect.ensures
