-- `words::name_size` meets its contract. Assumes nothing.
use Rattle.std.proofs.Common.{ap, length, ◌∙◌}
use Rattle.std.specs.Option.{unwrap_or}
use Rattle.options.proofs.Parts.{name-ends}
use Rattle.options.proofs.words.name_size.Goals as goal

pub returns : goal.returns
returns c =
    let word = c.args.word.now in
    c.unwrap_or.ensures ∙ ap (λ at. unwrap_or at (length word)) c.equals_sign.ensures ∙ name-ends word
