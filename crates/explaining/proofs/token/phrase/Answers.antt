-- `token::phrase` meets its contract. Assumes nothing.
use native.Mathlib.Omega.{arith}
use Rattle.explaining.proofs.Phrased.{phrased}
use Rattle.explaining.proofs.token.phrase.Goals as goal

pub returns : goal.returns
returns g c =
    rw (c.none-eight.ensures, c.copy_from_slice.ensures.after)
    (phrased c.args.tokens g.row.K c.min-count.result (omega arith) c.min-count.ensures)
