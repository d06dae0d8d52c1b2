-- `put_told` puts the whole of what is told of a record. Assumes nothing.
use native.Mathlib.Omega.{arith}
use Rattle.explaining.specs.Explained.{explained, record_answer, record_most}
use Rattle.explaining.proofs.RoomLined.{had-most}
use Rattle.summing.specs.Together.{moved_together, together_answer, together_most}
use Rattle.summing.specs.Told.{record_told}
use Rattle.job_explain.proofs.RecordsShort.{explained-short, together-short}
use Rattle.job_explain.proofs.turn.put_told.Goals as goal

pub returns-then-sums : goal.returns-then-sums
unfolding record_told together_answer
returns-then-sums c =
    let args = c.args in
    rw c.if-sums.true
    (had-most args.out.now args.at together_most (moved_together args.number args.file args.item) (omega (arith, c.requires))
    (together-short args.number args.file args.item) _ c.together_lines.result c.together_lines.ensures)

pub returns : goal.returns
unfolding record_told record_answer
returns c =
    let args = c.args in
    rw c.if-sums.false
    (had-most args.out.now args.at record_most (explained args.number args.file args.item) (omega (arith, c.requires))
    (explained-short args.number args.file args.item) _ c.record_lines.result c.record_lines.ensures)
