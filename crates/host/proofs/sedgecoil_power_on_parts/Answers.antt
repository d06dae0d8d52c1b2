-- `sedgecoil_power_on_parts` meets its contract. Assumes nothing.
use mathlib.Core.Path.{ap, ◌∙◌}
use borrow.Author.Tests.{le-leb, lt-leb}
use Rattle.file.specs.declared.registers.File.{File}
use Rattle.file.specs.Answers.{code_of}
use Rattle.image.specs.Parts.{rest_of}
use Rattle.host.specs.Calls.{leaving, powered_on}
use Rattle.host.proofs.sedgecoil_power_on_parts.Goals as goal

pub returns-then-chip-gt1 : goal.returns-then-chip-gt1
unfolding powered_on code_of
returns-then-chip-gt1 c = let e = lt-leb c.args.chip 1 c.if-chip-gt1.true in (rw e c.code.ensures, rw e, rw e)

pub returns : goal.returns
unfolding powered_on leaving
returns c =
    let e = le-leb c.args.chip 1 c.if-chip-gt1.false in
    let f = c.powered.ensures in (rw e, rw e (c.put_file.ensures.0 ∙ ap (λ (x : File). x.registers) f), rw e (c.put_file.ensures.1 ∙ ap rest_of f))
