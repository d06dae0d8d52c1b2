-- `message::wrong_line` meets its contract. Assumes nothing.
use mathlib.Core.Path.{◌∙◌}
use Rattle.options.proofs.Shown.{nothing-dropped}
use Rattle.options.specs.Messages.{wrong_line}
use Rattle.text.proofs.Standing.{lined-as}
use Rattle.options.proofs.message.wrong_line.Goals as goal

pub returns : goal.returns
returns c =
    let args = c.args in
    lined-as args.at _ (wrong_line args.refused args.words.now) _ _ _
    (c.text.ensures.text ∙ nothing-dropped args.refused args.words.now c.told_wrong-line.ensures) c.plain_text.ensures
