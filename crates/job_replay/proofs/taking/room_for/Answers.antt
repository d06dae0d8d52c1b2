-- `taking::room_for` meets its contract. Assumes nothing.
use mathlib.Core.Path.{refl}
use Rattle.job_replay.specs.Job.{room_for}
use Rattle.job_replay.proofs.taking.room_for.Goals as goal

pub returns-then-prints : goal.returns-then-prints
unfolding room_for
returns-then-prints c = rw c.if-prints.true refl

pub returns : goal.returns
unfolding room_for
returns c = rw c.if-prints.false refl
