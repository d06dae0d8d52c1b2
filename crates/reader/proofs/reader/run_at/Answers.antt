-- `run_at` meets its contract. Assumes nothing.
use Rattle.reader.proofs.Positions.{ran-left}
use Rattle.reader.proofs.reader.run_at.Goals as goal

pub returns : goal.returns
returns c =
    ran-left c.args.whole c.args.trace.now _ c.args.at c.args.replies.now _ c.run-ran.result _ c.left_at-left.ensures
    (c.run-ran.ensures.answer_value, c.run-ran.ensures.replies_after) c.after_many.ensures
