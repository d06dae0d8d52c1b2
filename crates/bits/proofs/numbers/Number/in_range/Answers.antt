-- `Number::in_range` meets its contract: 32 bits of a width are enough. Assumes nothing.
use Rattle.std.proofs.Common.{ℕ, map, ap, ◌∙◌, arith}
use Rattle.bits.specs.Encoded.{piece_of, meaning_of}
use Rattle.bits.specs.Numbers.{in_range}
use Rattle.bits.specs.Pieces.{width}
use Rattle.bits.proofs.Enough.{range-enough}
use Rattle.bits.proofs.numbers.Number.in_range.Goals as goal

pub returns : goal.returns
returns c =
    let a = c.args in
    c.in_range.ensures
    ∙ ap (λ (x : ℕ). in_range (meaning_of a.self.meaning) x a.last a.number) c.size.ensures
    ∙ range-enough (meaning_of a.self.meaning) (width (map piece_of a.self.pieces.now)) a.last a.number (omega arith)
