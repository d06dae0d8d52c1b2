-- An empty set names nothing. Assumes nothing.
use Prim.Native.Nat.{ℕ, zero, suc}
use mathlib.Core.Path.{◌≡◌, refl}
use mathlib.Core.Bool.{Bool, true, false}
use mathlib.Core.List.{List, [], ◌∷◌}
use native.Mathlib.Omega.{arith}
use borrow.Author.Tests.{eqb-true}
use lib.ListN.{get_or}
use Rattle.touched.specs.declared.set.Touched.{Touched}
use Rattle.touched.specs.Things.{Thing, a_register, in_palette, in_bank, the_pointer, the_marks, the_toggle, names, nothing, one, many, size, is_empty}

none-marked : (marks : List Bool) (n : ℕ) → many marks ≡ 0 → get_or marks n false ≡ false
unfolding many one
none-marked [] n e = refl
none-marked (true ∷ marks) n e = absurd (omega arith)
none-marked (false ∷ marks) zero e = refl
none-marked (false ∷ marks) (suc n) e = none-marked marks n (omega arith)

none-one : (b : Bool) → one b ≡ 0 → b ≡ false
unfolding one
none-one true e = absurd (omega arith)
none-one false e = refl

pub empty-names : (s : Touched) → is_empty s ≡ true → (t : Thing) → names s t ≡ false
unfolding is_empty size names
empty-names s e (a_register n) = none-marked s.registers n (omega (arith, eqb-true (size s) 0 e))
empty-names s e (in_palette n) = none-marked s.palette n (omega (arith, eqb-true (size s) 0 e))
empty-names s e (in_bank n) = none-marked s.bank n (omega (arith, eqb-true (size s) 0 e))
empty-names s e the_pointer = none-one s.pointer (omega (arith, eqb-true (size s) 0 e))
empty-names s e the_marks = none-one s.marks (omega (arith, eqb-true (size s) 0 e))
empty-names s e the_toggle = none-one s.toggle (omega (arith, eqb-true (size s) 0 e))

-- 'Right after a restore the set is empty'
pub nothing-empty : is_empty nothing ≡ true
unfolding is_empty size many one nothing
nothing-empty = refl
