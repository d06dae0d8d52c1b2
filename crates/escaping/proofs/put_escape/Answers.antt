-- `put_escape` meets its contract. Assumes nothing.
use Prim.Native.Nat.{◌/◌, ◌%◌}
use mathlib.Core.Path.{◌≡◌}
use native.Mathlib.Omega.{arith}
use Rattle.text.specs.Text.{capital}
use Rattle.escaping.specs.Escaped.{escape}
use Rattle.escaping.proofs.put_escape.Goals as goal

pub returns : goal.returns
unfolding escape
returns c =
    let b = c.args.b in
    let first : b / 16 % 16 ≡ b / 16 = omega arith in
    let second : b % 16 % 16 ≡ b % 16 = omega arith in
    rw (← rw first at c.capital.ensures, ← rw second at c.capital-2.ensures) (c.put.ensures.stored c.requires)
