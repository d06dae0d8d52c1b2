-- `list_end` meets its contract. Assumes nothing.
use Rattle.std.proofs.Common.{◌≡◌, ℕ, Result, Ok, Err, ap}
use Rattle.std.specs.Result.{IsErrAnd}
use Rattle.portable_text.specs.declared.writing.NotWritten.{NotWritten}
use Rattle.job_portable.proofs.Ends.{list_put, list-refused, list-short}
use Rattle.job_portable.proofs.ending.list_end.Goals as goal

-- what `?` hands on is the same error
told : (r : Result ℕ NotWritten) (why : NotWritten) → IsErrAnd r (λ y. y ≡ why) → r ≡ Err why
told (Ok n) why h = absurd h
told (Err y) why h = ap Err h

pub returns-in_err-write_list : goal.returns-in_err-write_list
returns-in_err-write_list c =
    rw (told c.from_residual.result _ c.from_residual.ensures.1)
    (list-refused c.args.bytes.now c.args.list.now _ c.write_list.result c.write_list.ensures c.args.out.now _ c.in_err-write_list.was)

pub returns-in-Done : goal.returns-in-Done
returns-in-Done c =
    list_put c.args.bytes.now c.args.list.now _ c.write_list.result c.write_list.ensures c.in_ok-write_list.was c.args.out.now _ c.plain_text-placed.result
    c.plain_text-placed.ensures c.in-Done.field-0 c.in-Done.is

pub returns-in_default : goal.returns-in_default
returns-in_default c =
    list-short c.args.bytes.now c.args.list.now _ c.write_list.result c.write_list.ensures c.in_ok-write_list.was c.args.out.now _ c.plain_text-placed.result
    c.plain_text-placed.ensures c.in_default.not-Done
