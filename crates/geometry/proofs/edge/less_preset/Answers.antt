-- `edge::less_preset` meets its contract. Assumes nothing.
use native.Mathlib.Omega.{arith}
use mir.Syntax.{w16}
use mir.ValLaws.{to_z-of_z}
use Rattle.geometry.proofs.Signed.{difference, difference-fits}
use Rattle.geometry.proofs.edge.less_preset.Goals as goal

pub overflow_sub-result : goal.overflow_sub-result
overflow_sub-result c =
    let args = c.args in
    rw (difference args.edge args.preset (omega arith) (omega arith))
    (difference-fits args.edge args.preset (omega arith) (omega arith))

pub returns : goal.returns
returns c =
    let args = c.args in
    rw (difference args.edge args.preset (omega arith) (omega arith))
    (to_z-of_z w16 _ (difference-fits args.edge args.preset (omega arith) (omega arith)))
