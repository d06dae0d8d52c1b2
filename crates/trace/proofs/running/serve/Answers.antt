-- `serve` meets its contract. Assumes nothing.
use Prim.Native.Nat.{ℕ}
use mathlib.Core.List.{List}
use mathlib.Core.Path.{ap₂, ◌∙◌}
use Rattle.file.specs.File.{seen}
use Rattle.access.specs.Engine.{decided_by}
use Rattle.access.proofs.DecidedByTables.{decided-by-tables}
use Rattle.trace.proofs.ServedAccess.{serves}
use Rattle.trace.proofs.running.serve.Goals as goal

pub returns : goal.returns
unfolding seen
returns c =
    serves c.args.registers.now c.args.state c.args.asked c.decide-decision.result
    (c.decide-decision.ensures
    ∙ ap₂ (λ (cells stored : List ℕ). decided_by cells stored (seen c.args.registers.now c.args.state) c.args.asked) c.requires.0 c.requires.1
    ∙ decided-by-tables (seen c.args.registers.now c.args.state) c.requires.2 c.args.asked)
    c.answered-before.result c.answered-before.ensures _ c.put_effect.result c.put_effect.ensures
