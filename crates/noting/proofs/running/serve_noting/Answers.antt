-- `serve_noting` meets its contract: it serves as a run without the set does, and its effect has the record's reach. Assumes nothing.
use Prim.Native.Nat.{ℕ}
use mathlib.Core.List.{List}
use mathlib.Core.Path.{◌≡◌, ap, ap₂, ◌∙◌}
use Rattle.file.specs.Effects.{reach_of}
use Rattle.file.specs.File.{seen}
use Rattle.access.specs.declared.engine.Decision.{Decision}
use Rattle.access.specs.Access.{reach}
use Rattle.access.specs.Engine.{decided_by, decision}
use Rattle.access.proofs.DecidedByTables.{decided-by-tables}
use Rattle.trace.proofs.ServedAccess.{serves}
use Rattle.noting.proofs.running.serve_noting.Goals as goal

pub returns : goal.returns
unfolding seen reach decision
returns c =
    let file = seen c.args.registers.now c.args.state in
    let decided : c.decide-decision.result ≡ decision file c.args.asked =
    c.decide-decision.ensures
    ∙ ap₂ (λ (cells stored : List ℕ). decided_by cells stored file c.args.asked) c.requires.0 c.requires.1
    ∙ decided-by-tables file c.requires.2 c.args.asked in (
      serves c.args.registers.now c.args.state c.args.asked c.decide-decision.result decided
          c.answered-before.result c.answered-before.ensures _ c.put_effect-served.result c.put_effect-served.ensures,
      c.reach-reach.ensures ∙ ap (λ (d : Decision). reach_of d.effect) decided,
    )
