-- `display_state` meets its contract. Assumes nothing.
use native.Mathlib.Omega.{arith}
use lib.Dec.{leb}
use Rattle.access.proofs.LineRead.{display-by, bits_fit}
use Rattle.access.proofs.engine.display_state.Goals as goal

pub overflow_add-result : goal.overflow_add-result
overflow_add-result c =
    omega (arith, c.shown.ensures, c.shown-2.ensures, bits_fit c.is_in_sync-sync.result (leb c.v_display.result.0 c.line_shown-line.result))

pub returns : goal.returns
returns c =
    rw (c.shown-2.ensures, c.shown.ensures)
    (display-by c.args.registers.now c.args.state c.line_shown-line.result
    c.line_shown-line.ensures c.is_in_sync-sync.result c.is_in_sync-sync.ensures
    c.v_display.result c.v_display.ensures)
