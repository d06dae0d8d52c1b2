-- `run_part` leaves what `replay_part` leaves, and where that refuses, what the run by itself does. Assumes nothing.
use Rattle.replaying.proofs.PartRuns.{refused-left}
use Rattle.replaying.proofs.run_part.Goals as goal

pub returns-in-Ok : goal.returns-in-Ok
returns-in-Ok c =
    let both = c.in-Ok.ensures.done in
    record { parted = λ good room wide low. rw c.if-prints.true both.0; ran = rw c.if-prints.true both.1 }

pub returns-in-Err : goal.returns-in-Err
returns-in-Err c =
    let args = c.args in
    let left = refused-left args.before args.number args.trace.now args.replies.now _ args.lines.now _ _ c.in-Err.ensures.replayed in
    rw (c.if-prints.true, ← left.0, ← left.1) c.run_untested.ensures

pub returns-else-prints : goal.returns-else-prints
returns-else-prints c = rw c.if-prints.false c.run_untested-else-prints.ensures
