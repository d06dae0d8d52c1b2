-- `replay` writes the timing line of a sound file. Assumes nothing.
use Rattle.std.proofs.Common.{arith}
use Rattle.replaying.specs.Replay.{timing_most}
use Rattle.shell.proofs.Turns.{finished-sound}
use Rattle.shell.proofs.printing.replay.Goals as goal

pub timing_end-end-requires : goal.timing_end-end-requires
unfolding timing_most
timing_end-end-requires g c = record {
  t = finished-sound c.in-Some.ensures;
  timing_most_in_bounds = omega arith;
}
