-- `display` meets its contract. Assumes nothing.
use Prim.Native.Nat.{◌<◌}
use mathlib.Core.Path.{ap, ◌∙◌, subst}
use Rattle.file.specs.declared.state.State.{State}
use Rattle.file.specs.File.{seen}
use Rattle.access.specs.Access.{display_state, v_sync_start, v_display}
use Rattle.timing.specs.declared.Scanlines.{Scanlines}
use Rattle.quick.specs.Smalls.{state_of}
use Rattle.quick.proofs.Display.{at-line-zero}
use Rattle.quick.proofs.turning.display.Goals as goal

pub returns-then-v_display-gt0 : goal.returns-then-v_display-gt0
unfolding v_sync_start v_display state_of
returns-then-v_display-gt0 c =
    at-line-zero c.args.registers.now (state_of c.args.chip c.args.line c.args.smalls.now) c.if-line-eq0.true
    (subst (λ (n : Scanlines). 0 < n.0) c.v_sync_start.ensures c.if-v_sync_start-gt0.true)
    (subst (λ (n : Scanlines). 0 < n.0) c.v_display.ensures c.if-v_display-gt0.true)

pub returns : goal.returns
returns c = c.display_state.ensures ∙ ap (λ (s : State). display_state (seen c.args.registers.now s)) c.state_in.ensures
