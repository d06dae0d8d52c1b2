-- `Number::write` meets its contract. Assumes nothing.
use Rattle.std.proofs.Common.{ℕ, map, ap, ◌∙◌}
use Rattle.bits.specs.Encoded.{piece_of}
use Rattle.bits.specs.Pieces.{scatter}
use Rattle.bits.proofs.numbers.Number.write.Goals as goal

pub returns : goal.returns
returns c =
    let a = c.args in
    c.scatter.ensures
    ∙ ap (λ (x : ℕ). scatter (map piece_of a.self.pieces.now) x a.registers.now) c.stored_for.ensures
