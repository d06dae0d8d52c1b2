-- `records_fit` meets its contract. Assumes nothing.
use Rattle.std.proofs.Common.{◌+◌, ◌-◌, ◌*◌, ◌/◌, leb, sym, refl, arith}
use borrow.Author.Tests.{le-leb, lt-leb}
use Rattle.bits.proofs.Test.{and-false}
use Rattle.replaying.specs.Replay.{records_fit}
use Rattle.text.proofs.Tests.{same_test}
use Rattle.replaying.proofs.records_fit.Goals as goal

pub returns-then-lines-last : goal.returns-then-lines-last
unfolding records_fit
returns-then-lines-last c =
    let args = c.args in
    rw (lt-leb (30 * args.count + args.last) args.lines (omega arith)) (sym (and-false (leb (8 * args.count) args.replies)))

pub returns-else-count-replies : goal.returns-else-count-replies
unfolding records_fit
returns-else-count-replies c =
    let args = c.args in
    rw (lt-leb (8 * args.count) args.replies (omega arith), lt-leb args.count (args.replies / 8) (omega arith)) refl

pub returns-then-count-replies : goal.returns-then-count-replies
unfolding records_fit
returns-then-count-replies c =
    let args = c.args in
    rw (le-leb (8 * args.count) args.replies (omega arith))
    (same_test args.count ((args.lines - args.last) / 30) (30 * args.count + args.last) args.lines (λ h. omega arith) (λ h. omega arith))
