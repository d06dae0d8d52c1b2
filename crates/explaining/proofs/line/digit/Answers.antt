-- `line::digit` meets its contract: a number of 64 bits has sixteen digits. Assumes nothing.
use Prim.Native.Nat.{ℕ, ◌*◌, ◌%◌}
use mathlib.Core.Path.{sym, ap}
use native.Mathlib.Nat.{div-eq_of_lt, lt_of_lt_of_le, pow-le-pow_right}
use native.Mathlib.Omega.{arith}
use Rattle.explaining.proofs.line.digit.Goals as goal

pub returns-then-place-ge16 : goal.returns-then-place-ge16
returns-then-place-ge16 c = (sym (ap (λ (x : ℕ). x % 16) (div-eq_of_lt (lt_of_lt_of_le c.ranges.n.fits (pow-le-pow_right {n = 2} (omega arith) {i = 64} {j = 4 * c.args.place} (omega (arith, c.if-place-ge16.true)))))), omega arith)
