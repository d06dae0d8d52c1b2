-- `parts::pointer_code` meets its contract. Assumes nothing.
use Prim.Native.Nat.{ℕ}
use mathlib.Core.Bool.{Bool, true, false, cond}
use mathlib.Core.Path.{◌≡◌, refl}
use Rattle.std.specs.Int.{from_bool}
use Rattle.explaining.specs.Explained.{pointer_code}
use Rattle.explaining.proofs.parts.pointer_code.Goals as goal

as-bit : (b : Bool) → from_bool b ≡ cond {A = ℕ} b 1 0
as-bit true = refl
as-bit false = refl

pub returns : goal.returns
unfolding pointer_code
returns c = rw (c.from-5.ensures, c.from-4.ensures, c.from-3.ensures, c.from-2.ensures, c.from.ensures, as-bit c.args.p.reading) refl
