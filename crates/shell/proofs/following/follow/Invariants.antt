-- `follow` runs the second trace to its end. Assumes nothing.
use Rattle.shell.proofs.SecondTrace.{Following}
use Rattle.shell.proofs.following.follow.Given as goal

abbrev pub invariant-loop-turn : goal.invariant-loop-turn
invariant-loop-turn g l = Following l.initial.onward.file l._turn l.onward
