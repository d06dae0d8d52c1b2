use mathlib.Core.Path.{sym, ap, ◌∙◌}
use Rattle.std.specs.Option.{option_and_then}
use Rattle.portable_text.specs.Scan.{ended}
use Rattle.portable_text.proofs.ListRead.{list_read, scanned-last, scanned-next, scanned-none}
use Rattle.portable_text.proofs.listing.read_list.Goals as goal

pub returns-in_err-scan : goal.returns-in_err-scan
returns-in_err-scan c =
    let text = c.args.text.now in
    let none = scanned-none text c.loop-b.scan c.loop-b.b-index c.loop-b-test.true (sym c.stepped.ensures ∙ c.in_err-scan.was) in
    c.from_residual.ensures ∙ ap (option_and_then ended) (sym none ∙ c.loop-b.invariant) ∙ list_read text

pub loop-b-preserved : goal.loop-b-preserved
loop-b-preserved c =
    let text = c.args.text.now in
    sym (scanned-next text c.loop-b.scan c.loop-b.b-index c.in_ok-scan.scan c.loop-b-test.true (sym c.stepped.ensures ∙ c.in_ok-scan.was))
    ∙ c.loop-b.invariant

pub returns : goal.returns
returns c =
    let text = c.args.text.now in
    c.ended.ensures
    ∙ ap (option_and_then ended) (sym (scanned-last text c.loop-b.scan c.loop-b.b-index c.loop-b-test.false) ∙ c.loop-b.invariant)
    ∙ list_read text
