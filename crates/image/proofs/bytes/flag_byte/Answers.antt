-- `flag_byte` meets its contract. Assumes nothing.
use mathlib.Core.Path.{◌≡◌, refl, ◌∙◌}
use mathlib.Core.Bool.{Bool, true, false}
use mir.Val.{bool_byte}
use Rattle.image.specs.Bytes.{flag_byte}
use Rattle.image.proofs.bytes.flag_byte.Goals as goal

as_byte : (flag : Bool) → bool_byte flag ≡ flag_byte flag
unfolding flag_byte
as_byte true = refl
as_byte false = refl

pub returns : goal.returns
returns c = c.from.ensures ∙ as_byte c.args.flag
