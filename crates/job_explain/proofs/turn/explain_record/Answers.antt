-- `explain_record` explains a record. Assumes nothing.
use Prim.Native.Nat.{◌+◌}
use mathlib.Core.Path.{◌≡◌, ap, ◌∙◌}
use native.Mathlib.Omega.{arith}
use borrow.Author.Rules.{rules}
use lib.ListN.{take}
use Rattle.access.specs.declared.access.Accessed.{Accessed}
use Rattle.file.specs.Answers.{code_of}
use Rattle.refusals.specs.Counted.{counting_of}
use Rattle.access.specs.Access.{access_item}
use Rattle.trace.specs.Records.{item_of}
use Rattle.summing.specs.Told.{record_summed}
use Rattle.job_explain.specs.Job.{record_after}
use Rattle.job_explain.proofs.turn.explain_record.Goals as goal

pub overflow_add-job : goal.overflow_add-job
overflow_add-job c =
    omega (arith, c.requires.number_bound)

pub returns : goal.returns
unfolding record_after
returns c =
    let args = c.args in
    let j = args.before in
    let item : c.item_of-item.result ≡ item_of (take 8 args.bytes.now) = search rules in
    let done : c.access-accessed.result ≡ access_item j.file (item_of (take 8 args.bytes.now)) = c.access-accessed.ensures ∙ ap (access_item j.file) item in
    let code = c.code.ensures ∙ ap (λ (r : Accessed). code_of r.answer) done in
    let counted = c.counting.ensures ∙ ap (counting_of j.refusals) code in
    let summed = c.record_summed-summary.ensures ∙ ap (record_summed args.sums j.summary j.file) item in
    record {
      become = λ i. record { number = j.number + 1; file = (done i).file; summary = summed i; refusals = counted i };
      stored = rw item at c.put_told-end.ensures;
    }
