-- `line::behind_number` meets its contract. Assumes nothing.
use mathlib.Core.Path.{◌≡◌}
use native.Mathlib.Omega.{arith}
use lib.ListN.{length}
use Rattle.text.specs.Text.{decimal, decimal_places, hex_four, newline, space}
use Rattle.text.proofs.Spelled.{digits-length}
use Rattle.text.proofs.Stores.{then-text}
use Rattle.text.proofs.line.behind_number.Goals as goal

-- how long a number is
many : (n : _) → length (decimal n) ≡ decimal_places n n
unfolding decimal
many n = digits-length (decimal_places n n) n

pub store_number-at-requires : goal.store_number-at-requires
store_number-at-requires c = rw c.from.ensures (omega (arith, many c.args.code))

pub byte-at-requires-2 : goal.byte-at-requires-2
byte-at-requires-2 c =
    let wrote = rw c.from.ensures at c.store_number-at.ensures in
    omega (arith, many c.args.code, wrote.place)

pub hex-at-requires : goal.hex-at-requires
hex-at-requires c =
    let wrote = rw c.from.ensures at c.store_number-at.ensures in
    omega (arith, many c.args.code, wrote.place)

pub byte-requires : goal.byte-requires
unfolding hex_four
byte-requires c =
    let wrote = rw c.from.ensures at c.store_number-at.ensures in
    omega (arith, many c.args.code, wrote.place)

pub returns : goal.returns
unfolding space newline
returns c =
    let wrote = rw c.from.ensures at c.store_number-at.ensures in
    then-text (then-text (then-text (then-text c.byte-at.ensures wrote) c.byte-at-2.ensures) c.hex-at.ensures) c.byte.ensures
