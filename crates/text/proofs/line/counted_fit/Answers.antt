use Prim.Native.Nat.{◌+◌, ◌*◌}
use mathlib.Core.Path.{ap}
use native.Mathlib.Omega.{arith}
use borrow.Author.Tests.{le-leb, lt-leb}
use lib.ListN.{length, drop}
use Rattle.trace.specs.Records.{two}
use Rattle.text.specs.Text.{reply_lines}
use Rattle.text.proofs.Replies.{all_lines, next-line-length, no-line-left}
use Rattle.text.proofs.line.counted_fit.Goals as goal

pub loop-n-init : goal.loop-n-init
loop-n-init c =
    let args = c.args in
    omega (arith, ap length (all_lines args.count args.number args.replies.now))

pub overflow_add-number : goal.overflow_add-number
overflow_add-number c = omega arith

pub overflow_mul-n : goal.overflow_mul-n
overflow_mul-n c = omega arith

pub bounds-replies-n : goal.bounds-replies-n
bounds-replies-n c = omega arith

pub returns-then-left-size : goal.returns-then-left-size
returns-then-left-size c =
    let args = c.args in
    let here = c.loop-n in
    let next = next-line-length args.count args.number args.replies.now here.n (omega arith) in
    let size = c.line_size-size.ensures (two args.replies.now (8 * here.n + 4)) in
    rw (lt-leb (length (reply_lines args.count args.number args.replies.now)) args.room (omega arith))

pub loop-n-preserved : goal.loop-n-preserved
loop-n-preserved c =
    let args = c.args in
    let here = c.loop-n in
    let next = next-line-length args.count args.number args.replies.now here.n (omega arith) in
    let size = c.line_size-size.ensures (two args.replies.now (8 * here.n + 4)) in
    omega arith

pub returns : goal.returns
returns c =
    let args = c.args in
    let here = c.loop-n in
    let none = no-line-left args.count (args.number + here.n) (drop (8 * here.n) args.replies.now) here.n (omega arith) in
    rw (le-leb (length (reply_lines args.count args.number args.replies.now)) args.room (omega (arith, ap length none)))
