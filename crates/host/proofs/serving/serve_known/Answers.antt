-- `serve_known` meets its contract. Assumes nothing.
use mathlib.Core.Path.{◌≡◌, refl, sym, ap, ◌∙◌, subst}
use lib.Dec.{T}
use Rattle.file.specs.declared.state.State.{State}
use Rattle.file.specs.File.{seen}
use Rattle.file.specs.Sound.{sound}
use Rattle.quick.specs.Smalls.{smalls_of, state_of}
use Rattle.quick.proofs.Parts.{same-state}
use Rattle.trace.specs.EngineServed.{served_of}
use Rattle.trace.proofs.SlotTurns.{serves-alike}
use Rattle.host.proofs.Known.{served-as}
use Rattle.host.proofs.serving.serve_known.Goals as goal

pub turn-number-requires : goal.turn-number-requires
turn-number-requires c =
    let state = c.args.state in
    let smalls = c.smalls_of-smalls in
    let back : state_of state.chip state.line smalls.result ≡ state = same-state state refl refl smalls.ensures in (
      c.requires.0,
      smalls.ensures ∙ ap smalls_of (sym back),
      subst (λ (s : State). T (sound (seen c.args.registers.now s))) (sym back) c.requires.1,
    )

pub returns : goal.returns
returns c =
    let state = c.args.state in
    let registers = c.args.registers.now in
    let smalls = c.smalls_of-smalls in
    let turned = c.turn-number in
    let back : state_of state.chip state.line smalls.result ≡ state = same-state state refl refl smalls.ensures in
    served-as (c.served_of.ensures ∙ ap (served_of turned.result) c.state_in.ensures) (serves-alike registers _ state back turned.ensures)
