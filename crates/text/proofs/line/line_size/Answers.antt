-- `line::line_size` meets its contract. Assumes nothing.
use mathlib.Core.Path.{sym}
use Rattle.text.proofs.Lines.{line-length}
use Rattle.text.proofs.line.line_size.Goals as goal

pub returns : goal.returns
returns c =
    let second = rw c.from.ensures at c.places-2.ensures.0 in
    λ value. sym (line-length c.args.number c.args.code value _ _ c.places.ensures.0 second)
