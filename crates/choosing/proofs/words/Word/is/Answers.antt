-- `is` meets its contract. Assumes nothing.
use Rattle.std.proofs.Common.{ℕ, take, ap, ◌∙◌}
use Rattle.file.specs.Readers.{same}
use Rattle.choosing.specs.Choosing.{text_of}
use Rattle.choosing.proofs.SameTexts.{same-told}
use Rattle.choosing.proofs.words.Word.is.Goals as goal

pub returns : goal.returns
unfolding text_of
returns c =
    c.eq.ensures
    ∙ same-told _ _
    ∙ ap (λ (n : ℕ). same (take n c.args.self.bytes) c.args.text.now) c.min.ensures
