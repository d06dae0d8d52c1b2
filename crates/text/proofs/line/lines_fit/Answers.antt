-- `line::lines_fit` meets its contract: lines of 30 bytes that have room are no shorter. Assumes nothing.
use Prim.Native.Nat.{◌+◌, ◌-◌}
use mathlib.Core.Path.{◌∙◌}
use native.Mathlib.Omega.{arith}
use borrow.Author.Tests.{le-leb, lt-leb}
use lib.ListN.{length}
use Rattle.text.specs.Text.{reply_lines}
use Rattle.text.proofs.Replies.{lines-most}
use Rattle.text.proofs.Tests.{same_test}
use Rattle.text.proofs.line.lines_fit.Goals as goal

pub returns-then-room-at : goal.returns-then-room-at
returns-then-room-at c =
    let args = c.args in
    rw (lt-leb (args.at + length (reply_lines args.count args.number args.replies.now)) args.room (omega arith))

pub returns-then-count-room : goal.returns-then-count-room
returns-then-count-room c =
    let args = c.args in
    let most = lines-most args.count args.number args.replies.now (omega arith) (λ k. omega (arith, c.shared_slice_known-1.given k)) in
    rw (le-leb (args.at + length (reply_lines args.count args.number args.replies.now)) args.room (omega arith))

pub returns : goal.returns
returns c =
    let args = c.args in
    let size = length (reply_lines args.count args.number args.replies.now) in
    c.counted_fit.ensures ∙ same_test size (args.room - args.at) (args.at + size) args.room (λ h. omega arith) (λ h. omega arith)
