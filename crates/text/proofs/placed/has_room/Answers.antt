-- `placed::has_room` meets its contract. Assumes nothing.
use Prim.Native.Nat.{◌+◌, ◌-◌}
use native.Mathlib.Omega.{arith}
use borrow.Author.Tests.{lt-leb}
use Rattle.text.proofs.Tests.{same_test}
use Rattle.text.proofs.placed.has_room.Goals as goal

pub returns-then-room-size : goal.returns-then-room-size
returns-then-room-size c =
    let args = c.args in
    rw (lt-leb (args.at + args.size) args.room (omega arith))

pub returns : goal.returns
returns c =
    let args = c.args in
    same_test args.at (args.room - args.size) (args.at + args.size) args.room (λ h. omega arith) (λ h. omega arith)
