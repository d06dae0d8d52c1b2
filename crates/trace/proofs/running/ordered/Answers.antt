-- `ordered` meets its contract. Assumes nothing.
use mathlib.Core.Path.{refl, sym, ap, ◌∙◌, subst}
use lib.Dec.{T}
use Rattle.file.specs.declared.state.State.{State}
use Rattle.file.specs.File.{seen}
use Rattle.file.specs.Registers.{stored_table}
use Rattle.file.specs.Sound.{sound}
use Rattle.places.specs.EngineCells.{cell_table}
use Rattle.quick.specs.Smalls.{state_of}
use Rattle.trace.specs.EngineServed.{Says}
use Rattle.trace.proofs.SlotTurns.{serves-alike, ordered-turns}
use Rattle.trace.proofs.running.ordered.Goals as goal

pub serve-served-requires : goal.serve-served-requires
unfolding state_of
serve-served-requires c =
    let same = c.state_in-state.ensures in (
      c.requires.table ∙ ap (λ (s : State). cell_table s.chip) (sym same),
      c.requires.bits ∙ ap (λ (s : State). stored_table s.chip) (sym same),
      subst (λ (s : State). T (sound (seen c.args.parts.now.registers s))) (sym same) c.requires.good,
    )

pub returns : goal.returns
returns c =
    let same = c.state_in-state.ensures in
    ordered-turns c.args.parts.now.registers c.args.parts.now.smalls c.args.tables.now.chip c.args.parts.now.line c.args.asked c.requires.good _ c.serve-served.result
    (serves-alike c.args.parts.now.registers _ _ same c.serve-served.ensures) c.said_of.result
    (subst (λ (s : State). Says c.serve-served.result s.pointer c.said_of.result) same c.said_of.ensures)
    _ _ _ c.smalls_of-parts.ensures refl c.codes_of-parts.ensures
