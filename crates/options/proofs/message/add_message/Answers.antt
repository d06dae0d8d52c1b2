-- `message::add_message` meets its contract. Assumes nothing.
use Rattle.std.proofs.Common.{◌+◌, drop, sym, ap, ◌∙◌}
use Rattle.text.specs.declared.fixed.Line.{Line}
use Rattle.text.specs.Fixed.{behind}
use Rattle.options.specs.Lines.{line_most}
use Rattle.options.specs.Messages.{filled}
use Rattle.options.proofs.Shown.{next-piece, no-piece}
use Rattle.options.proofs.message.add_message.Goals as goal

pub loop-b-preserved : goal.loop-b-preserved
loop-b-preserved c =
    let here = c.loop-b in
    let args = c.args in
    let said = args.message.now in
    ap (λ (l : Line line_most). behind l (filled args.refused args.words.now (drop (here.b-index + 1) said))) c.add_piece-after.ensures
    ∙ next-piece args.refused args.words.now here.after said here.b-index c.loop-b-test.true ∙ here.invariant

pub returns : goal.returns
returns c =
    let here = c.loop-b in
    let args = c.args in
    sym (no-piece args.refused args.words.now here.after args.message.now here.b-index c.loop-b-test.false) ∙ here.invariant
