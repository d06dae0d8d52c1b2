-- `feed` explains as many records of a part as there are, as have room and as have numbers. Assumes nothing.
use Rattle.job_explain.proofs.Turns.{Going}
use Rattle.job_explain.proofs.part.feed.Given as goal

abbrev pub invariant-loop-record : goal.invariant-loop-record
invariant-loop-record l = Going l.sums l.initial.job l.part l.initial.out l.bytes l.out l.job l.end l.record-iterator.rest.now l.record-iterator.size
