-- The lines of a summary, and those of what moved together, by their numbers. Assumes nothing.
use Prim.Native.Nat.{ℕ, ◌+◌, ◌-◌, ◌<◌}
use mathlib.Core.Path.{◌≡◌, refl}
use native.Mathlib.Omega.{arith}
use borrow.Author.Tests.{eq-eqb, le-ltb, lt-ltb, ne_eqb}
use lib.ListN.{get_or}
use Rattle.explaining.specs.declared.explain.Case.{Case}
use Rattle.explaining.specs.Explained.{first_line}
use Rattle.summing.specs.declared.summary.Summary.{Summary}
use Rattle.summing.specs.Closing.{code_line, register_line, summary_line, timing_line}
use Rattle.summing.specs.Together.{moved_line, together_line}

pub first-told : (c : Case) (k : ℕ) → k < 1 → together_line c k ≡ first_line c
unfolding together_line
first-told c k h = rw (eq-eqb k 0 (omega (arith, h))) refl

pub moved-told : (c : Case) (k : ℕ) → together_line c (1 + k) ≡ moved_line c k
unfolding together_line
moved-told c k =
    let down : 1 + k - 1 ≡ k = omega arith in
    rw (ne_eqb (1 + k) 0 (λ e. omega (arith, e)), down) refl

module _ (s : Summary) (k : ℕ) where
  pub register-told : k < 108 → summary_line s k ≡ register_line k (get_or s.writes k 0) (get_or s.reaches k 0) (get_or s.moved k 0)
  unfolding summary_line
  register-told h = rw (lt-ltb k 108 h) refl

  pub code-told : k < 21 → summary_line s (108 + k) ≡ code_line k (get_or s.codes k 0)
  unfolding summary_line
  code-told h =
      let down : 108 + k - 108 ≡ k = omega arith in
      rw (le-ltb (108 + k) 108 (omega arith), lt-ltb (108 + k) 129 (omega (arith, h)), down) refl

  pub number-told : summary_line s (129 + k) ≡ timing_line k (get_or s.first k 0) (get_or s.last k 0)
  unfolding summary_line
  number-told =
      let down : 129 + k - 129 ≡ k = omega arith in
      rw (le-ltb (129 + k) 108 (omega arith), le-ltb (129 + k) 129 (omega arith), down) refl
