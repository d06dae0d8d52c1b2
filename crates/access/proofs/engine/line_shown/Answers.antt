-- `line_shown` meets its contract. Assumes nothing.
use Rattle.access.proofs.LineRead.{total-some, shown_by}
use Rattle.access.proofs.engine.line_shown.Goals as goal

pub nonzero_rem-result : goal.nonzero_rem-result
nonzero_rem-result c =
    total-some c.args.registers.now c.args.state c.v_total.result c.v_total.ensures

pub returns : goal.returns
returns c =
    shown_by c.args.registers.now c.args.state c.v_total.result c.v_total.ensures
