-- `decide_in` meets its contract. Assumes nothing.
use Rattle.std.proofs.Common.{◌≡◌, ℕ, List, ap₂, ◌∙◌, T}
use Rattle.access.specs.declared.engine.Decision.{Decision}
use Rattle.access.specs.declared.record.Record.{Record}
use Rattle.access.specs.Engine.{decided_by, decision}
use Rattle.file.specs.declared.registers.File.{File}
use Rattle.file.specs.File.{seen}
use Rattle.file.specs.Sound.{sound}
use Rattle.access.proofs.DecidedByTables.{decided-by-tables}
use Rattle.access.proofs.SeenDecisions.{with-pixel, without-pixel}
use Rattle.places.specs.EngineCells.{cell_table}
use Rattle.file.specs.Registers.{stored_table}
use Rattle.access.proofs.access.decide_in.Goals as goal

-- by the table of cells, and the stored bits on the file's chip
decided : (whole : File) (asked : Record) (cells stored : List ℕ) (result : Decision) → T (sound whole)
    → result ≡ decided_by cells stored (seen whole.registers whole.state) asked → cells ≡ cell_table whole.state.chip → stored ≡ stored_table whole.state.chip
    → result ≡ decision (seen whole.registers whole.state) asked
unfolding sound seen
decided whole asked cells stored result is-sound e f g =
    e
    ∙ ap₂ (λ (cells stored : List ℕ). decided_by cells stored (seen whole.registers whole.state) asked) f g
    ∙ decided-by-tables (seen whole.registers whole.state) is-sound asked

pub returns-then-decision : goal.returns-then-decision
returns-then-decision c =
    with-pixel c.args.whole c.args.asked c.decide-decision.result
    (decided c.args.whole c.args.asked c.cells-cells.result c.stored-stored.result c.decide-decision.result c.requires c.decide-decision.ensures c.cells-cells.ensures c.stored-stored.ensures)
    c.shown_in.result c.shown_in.ensures c.if-decision.true

pub returns : goal.returns
returns c =
    without-pixel c.args.whole c.args.asked c.decide-decision.result
    (decided c.args.whole c.args.asked c.cells-cells.result c.stored-stored.result c.decide-decision.result c.requires c.decide-decision.ensures c.cells-cells.ensures c.stored-stored.ensures)
    c.if-decision.false
