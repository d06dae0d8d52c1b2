-- `explain::lines_fit` meets its contract. Assumes nothing.
use Prim.Native.Nat.{◌+◌, ◌-◌, ◌*◌, ◌/◌}
use native.Mathlib.Omega.{arith}
use borrow.Author.Tests.{lt-leb}
use Rattle.text.proofs.Tests.{same_test}
use Rattle.explaining.specs.Lines.{line_room}
use Rattle.explaining.proofs.explain.lines_fit.Goals as goal

pub returns-then-room-at : goal.returns-then-room-at
returns-then-room-at c =
    let args = c.args in
    rw (lt-leb (args.at + line_room * args.count) args.room (omega arith))

pub returns : goal.returns
returns c =
    let args = c.args in
    same_test args.count ((args.room - args.at) / 160) (args.at + line_room * args.count) args.room (λ h. omega arith) (λ h. omega arith)
