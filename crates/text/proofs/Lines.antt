-- The line of a record: how long it is, at most too, and from what it is put together. Assumes nothing.
use Prim.Native.Nat.{ℕ, ◌+◌, ◌^◌, ◌≤◌, ◌<◌}
use mathlib.Core.Path.{◌≡◌, refl}
use mathlib.Core.List.{◌++◌, append_assoc}
use native.Mathlib.Omega.{arith}
use lib.Dec.{lit<}
use lib.ListN.{length, length-append}
use Rattle.text.specs.Text.{decimal_places, decimal, hex_four, line_of, newline, space}
use Rattle.text.proofs.Places.{most-places}
use Rattle.text.proofs.Spelled.{digits-length}

module _ (number code value first second : ℕ) (e : first ≡ decimal_places number number) (f : second ≡ decimal_places code code) where
  pub line-length : length (line_of number code value) ≡ first + second + 7
  unfolding line_of decimal space hex_four newline
  line-length = simp (length-append, digits-length) (omega arith)

-- the number, and what is behind it
pub line_made : (number code value : ℕ) → decimal number ++ (space ++ decimal code ++ space ++ hex_four value ++ newline) ≡ line_of number code value
unfolding line_of
line_made number code value = simp append_assoc

-- a number of 64 bits and a code of 8
pub line-most : (number code value : ℕ) → number < 18446744073709551616 → code < 256 → length (line_of number code value) ≤ 30
line-most number code value hn hc =
    omega (
      arith,
      line-length number code value _ _ refl refl,
      most-places 19 number number (omega (arith, lit< {m = 18446744073709551615} {n = 10 ^ 20} tt)),
      most-places 2 code code (omega arith),
    )
