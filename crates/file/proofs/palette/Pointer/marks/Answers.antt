-- `Pointer::marks` meets its contract. Assumes nothing.
use Prim.Native.Nat.{ℕ, zero, suc, min}
use mathlib.Core.Path.{◌≡◌, refl, sym}
use native.Mathlib.Nat.{zero-add}
use native.Mathlib.Omega.{arith}
use Rattle.file.specs.Palette.{by_colour, marks_from}
use Rattle.file.proofs.palette.Pointer.marks.Goals as goal

-- what is neither red nor green is blue
capped : (next : ℕ) → min next 2 ≡ by_colour next 0 1 2
capped zero = refl
capped (suc zero) = refl
capped (suc (suc next)) = omega arith

pub returns-then-reading : goal.returns-then-reading
unfolding marks_from
returns-then-reading c = rw (c.if-reading.true, ← capped, ← c.min-colour.ensures)

pub returns-else-reading : goal.returns-else-reading
unfolding marks_from
returns-else-reading c = rw (c.if-reading.false, ← capped, ← c.min-colour.ensures) (sym (zero-add _))
