-- Whether a timing and a name have a line, by what the code's tests found. Assumes nothing.
use Prim.Native.Nat.{ℕ, ◌≤◌}
use mathlib.Core.Bool.{◌&&◌}
use mathlib.Core.List.{List}
use lib.Dec.{T, leb, leb→le}
use lib.ListN.{length}
use Rattle.bits.proofs.Test.{left, right}
use Rattle.modes.specs.Form.{every, name_byte}
use Rattle.mode_text.specs.Out.{name_fits, clock_fits}

-- what a name that fits has
module _ (name : List ℕ) where
  pub name-most : T (name_fits name) → length name ≤ 32
  unfolding name_fits
  name-most t =
      leb→le (length name) 32
      (right (leb 1 (length name)) (leb (length name) 32) (left (leb 1 (length name) && leb (length name) 32) (every name_byte name) t))

-- what is asked of name, clock and room, one by one
module _ (name : List ℕ) (khz room : ℕ) (t : T (name_fits name && clock_fits khz && leb 256 room)) where
  pub asked-name : T (name_fits name)
  asked-name = left (name_fits name) (clock_fits khz) (left (name_fits name && clock_fits khz) (leb 256 room) t)

  pub asked-clock : T (clock_fits khz)
  asked-clock = right (name_fits name) (clock_fits khz) (left (name_fits name && clock_fits khz) (leb 256 room) t)

  pub asked_room : 256 ≤ room
  asked_room = leb→le 256 room (right (name_fits name && clock_fits khz) (leb 256 room) t)
