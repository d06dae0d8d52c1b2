-- `line::line` meets its contract. Assumes nothing.
use mathlib.Core.Path.{refl}
use native.Mathlib.Omega.{arith}
use Rattle.text.specs.Text.{decimal, decimal_places}
use Rattle.text.proofs.Lines.{line-length, line_made}
use Rattle.text.proofs.Spelled.{digits-length}
use Rattle.text.proofs.Stores.{then-text}
use Rattle.text.proofs.line.line.Goals as goal

pub store_number-at-requires : goal.store_number-at-requires
unfolding decimal
store_number-at-requires c =
    let args = c.args in
    omega (
      arith,
      line-length args.number args.code args.value _ _ refl refl,
      digits-length (decimal_places args.number args.number) args.number,
    )

pub behind_number-requires : goal.behind_number-requires
unfolding decimal
behind_number-requires c =
    let args = c.args in
    omega (
      arith,
      line-length args.number args.code args.value _ _ refl refl,
      digits-length (decimal_places args.number args.number) args.number,
      c.store_number-at.ensures.place,
    )

pub returns : goal.returns
returns c =
    let args = c.args in
    rw (line_made args.number args.code args.value) at (then-text c.store_number-at.ensures c.behind_number.ensures)
