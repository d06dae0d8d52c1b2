-- `no_line_line` meets its contract. Assumes nothing.
use borrow.Author.Tests.{eq-eqb, ne_eqb}
use Rattle.file.specs.Readers.{ascii}
use Rattle.text.specs.Text.{newline}
use Rattle.job_modeline.specs.OneLine.{no_line_line, no_line_text}
use Rattle.job_modeline.proofs.line.no_line_line.Goals as goal

pub returns-then-code-eq21 : goal.returns-then-code-eq21
unfolding no_line_line no_line_text ascii newline
returns-then-code-eq21 c =
    rw (eq-eqb c.args.code 21 c.if-code-eq21.true) c.plain_text.ensures

pub returns-then-code-eq22 : goal.returns-then-code-eq22
unfolding no_line_line no_line_text ascii newline
returns-then-code-eq22 c =
    let code = c.args.code in
    rw (ne_eqb code 21 c.if-code-eq21.false, eq-eqb code 22 c.if-code-eq22.true) c.plain_text-then-code-eq22.ensures

pub returns : goal.returns
unfolding no_line_line no_line_text ascii newline
returns c =
    let code = c.args.code in
    rw (ne_eqb code 21 c.if-code-eq21.false, ne_eqb code 22 c.if-code-eq22.false) c.plain_text-2.ensures
