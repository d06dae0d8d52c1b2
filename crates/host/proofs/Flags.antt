-- A flag as a number is 0 or 1. Assumes nothing.
use mathlib.Core.Path.{◌≡◌, refl}
use mathlib.Core.Bool.{Bool, true, false}
use mir.Val.{bool_byte}
use Rattle.image.specs.Bytes.{flag_byte}

pub flagged : (flag : Bool) → bool_byte flag ≡ flag_byte flag
unfolding flag_byte
flagged true = refl
flagged false = refl
