-- The lines of a record by their numbers. Assumes nothing.
use Prim.Native.Nat.{ℕ, zero, suc, ◌+◌, ◌-◌, ◌<◌}
use mathlib.Core.List.{[], ◌∷◌}
use mathlib.Core.Path.{◌≡◌, refl}
use native.Mathlib.Omega.{arith}
use borrow.Author.Tests.{ne_eqb}
use lib.ListN.{get_or}
use Rattle.explaining.specs.declared.explain.Case.{Case}
use Rattle.explaining.specs.Explained.{beam_line, entry_line, first_line, line_at, marks_line, number_line, pointer_line, toggle_line}
use Rattle.explaining.specs.Lines.{Line}

-- the first six
pub head_at : (c : Case) (d : Line) (k : ℕ) → k < 6
    → get_or (first_line c ∷ toggle_line c ∷ pointer_line c ∷ marks_line c ∷ entry_line c ∷ beam_line c ∷ []) k d ≡ line_at c k
unfolding line_at
head_at c d zero h = refl
head_at c d (suc zero) h = refl
head_at c d (suc (suc zero)) h = refl
head_at c d (suc (suc (suc zero))) h = refl
head_at c d (suc (suc (suc (suc zero)))) h = refl
head_at c d (suc (suc (suc (suc (suc zero))))) h = refl
head_at c d (suc (suc (suc (suc (suc (suc k)))))) h = absurd (omega (arith, h))

-- and behind them one for each timing number
pub number_at : (c : Case) (k : ℕ) → line_at c (6 + k) ≡ number_line c k
unfolding line_at
number_at c k =
    let up : 6 + k - 6 ≡ k = omega arith in
    rw (ne_eqb (6 + k) 0 (λ e. omega (arith, e)), ne_eqb (6 + k) 1 (λ e. omega (arith, e)), ne_eqb (6 + k) 2 (λ e. omega (arith, e)), ne_eqb (6 + k) 3 (λ e. omega (arith, e)), ne_eqb (6 + k) 4 (λ e. omega (arith, e)), ne_eqb (6 + k) 5 (λ e. omega (arith, e)), up) refl
