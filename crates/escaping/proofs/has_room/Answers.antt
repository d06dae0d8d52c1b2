-- `has_room` meets its contract. Assumes nothing.
use Prim.Native.Nat.{◌+◌, ◌-◌}
use mathlib.Core.Path.{◌∙◌}
use native.Mathlib.Omega.{arith}
use borrow.Author.Tests.{lt-leb}
use lib.ListN.{length}
use Rattle.text.proofs.Tests.{same_test}
use Rattle.escaping.specs.Escaped.{escaped_text}
use Rattle.escaping.proofs.has_room.Goals as goal

pub returns-then-room-at : goal.returns-then-room-at
returns-then-room-at c =
    let args = c.args in
    rw (lt-leb (args.at + length (escaped_text args.bytes.now)) args.room (omega arith))

pub returns : goal.returns
returns c =
    let args = c.args in
    let size = length (escaped_text args.bytes.now) in
    c.text_fits.ensures ∙ same_test size (args.room - args.at) (args.at + size) args.room (λ h. omega arith) (λ h. omega arith)
