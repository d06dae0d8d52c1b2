-- `since` goes on from a sound file. Assumes nothing.
use Rattle.shell.proofs.Turns.{finished-sound}
use Rattle.shell.proofs.following.since.Goals as goal

pub follow-onward-requires : goal.follow-onward-requires
follow-onward-requires g c = finished-sound c.in-Some.ensures
