-- `put::put_clock` meets its contract. Assumes nothing.
use mathlib.Core.Path.{◌∙◌}
use Rattle.file.specs.Answers.{code_of}
use Rattle.file.specs.Readers.{ascii}
use Rattle.text.specs.Text.{decimal, decimal_places}
use Rattle.clock_text.specs.Report.{clock_text}
use Rattle.clock_text.proofs.put.put_clock.Goals as goal

pub put_rate-requires : goal.put_rate-requires
unfolding clock_text
put_rate-requires c = rw c.in-Ok.is at c.requires

pub returns-in-Ok : goal.returns-in-Ok
unfolding clock_text
returns-in-Ok c = rw c.in-Ok.is c.put_rate.ensures

pub put-requires : goal.put-requires
unfolding clock_text code_of ascii decimal decimal_places
put-requires c =
    let malformed = rw c.in-Err-Malformed.is at c.in-Err-Malformed.field-0-is in
    rw (rw malformed at c.in-Err-Malformed.is) at c.requires

pub returns-in-Err-Malformed : goal.returns-in-Err-Malformed
unfolding clock_text code_of ascii decimal decimal_places
returns-in-Err-Malformed c =
    let malformed = rw c.in-Err-Malformed.is at c.in-Err-Malformed.field-0-is in
    rw (rw malformed at c.in-Err-Malformed.is) c.put.ensures

pub returns-in-Err : goal.returns-in-Err
unfolding clock_text
returns-in-Err c =
    let room = rw c.in-Err.is at c.requires in
    rw c.in-Err.is (rw (c.from.ensures ∙ c.code.ensures) at (c.put_number.ensures.stored (rw (c.from.ensures ∙ c.code.ensures) room)))
