-- A timing of the form is what its own eight numbers say, and eight numbers that a mode says are its timing's own. Assumes nothing.
use Prim.Native.Nat.{ℕ, zero, suc, ◌*◌, ◌/◌, ◌%◌}
use mathlib.Core.Bool.{Bool, true}
use mathlib.Core.List.{List, [], ◌∷◌}
use mathlib.Core.Path.{◌≡◌, refl, ap, sym, subst}
use native.Mathlib.Omega.{arith}
use borrow.Author.Tests.{eq-eqb}
use lib.Dec.{T, eqb, eqb→eq}
use lib.ListN.{length, get_or, take}
use Rattle.bits.proofs.Test.{left, right}
use Rattle.timing.specs.Timing.{timing_of, numbers_of}
use Rattle.timing.specs.declared.Timing.{Timing}
use Rattle.modes.specs.Form.{every}
use Rattle.mode_file.specs.Said.{eights, in_clocks, fifteen, timing_said}
use Rattle.mode_text.specs.Out.{form_tests, of_form, numbers_out}

eight : (x : ℕ) → 8 * x / 8 ≡ x
eight x = omega arith

even : (x : ℕ) → eqb (8 * x % 8) 0 ≡ true
even x = eq-eqb (8 * x % 8) 0 (omega arith)

pub out-even : (t : Timing) → eights (numbers_out t) ≡ true
unfolding eights numbers_out every
out-even t = rw (even t.h_display.0, even t.h_sync_start.0, even t.h_sync_end.0, even t.h_total.0)

-- of tests that all pass, each does
each-passes : (tests : List Bool) (k : ℕ) → T (every (λ (x : Bool). x) tests) → T (get_or tests k true)
unfolding every
each-passes [] k t = tt
each-passes (b ∷ bs) zero t = left b (every (λ (x : Bool). x) bs) t
each-passes (b ∷ bs) (suc k) t = each-passes bs k (right b (every (λ (x : Bool). x) bs) t)

numbers-said : (t : Timing) → T (of_form t) → fifteen (in_clocks (numbers_out t)) ≡ numbers_of t
unfolding of_form fifteen in_clocks numbers_out numbers_of
numbers-said t o =
    rw (
      eight t.h_total.0,
      eight t.h_display.0,
      eight t.h_sync_start.0,
      eight t.h_sync_end.0,
      eqb→eq t.h_blank_start.0 t.h_display.0 (each-passes (form_tests t) 0 o),
      eqb→eq t.h_blank_end.0 t.h_total.0 (each-passes (form_tests t) 1 o),
      eqb→eq t.v_blank_start.0 t.v_display.0 (each-passes (form_tests t) 2 o),
      eqb→eq t.v_blank_end.0 t.v_total.0 (each-passes (form_tests t) 3 o),
      eqb→eq t.line_compare.0 1023 (each-passes (form_tests t) 4 o),
      eqb→eq t.offset t.h_display.0 (each-passes (form_tests t) 5 o),
      eqb→eq t.screen_start 0 (each-passes (form_tests t) 6 o),
    )

-- a timing of the form is what its own eight numbers say
pub of-form-said : (t : Timing) → T (of_form t) → timing_said (numbers_out t) ≡ t
unfolding timing_said timing_of numbers_of
of-form-said t o = ap timing_of (numbers-said t o)

-- the other way round: the numbers of a line, as a timing, are of the form
pub said-form : (ns : List ℕ) → of_form (timing_said ns) ≡ true
unfolding of_form timing_said timing_of fifteen in_clocks
said-form ns =
    rw (
      eq-eqb (get_or ns 0 0 / 8) (get_or ns 0 0 / 8) refl,
      eq-eqb (get_or ns 3 0 / 8) (get_or ns 3 0 / 8) refl,
      eq-eqb (get_or ns 4 0) (get_or ns 4 0) refl,
      eq-eqb (get_or ns 7 0) (get_or ns 7 0) refl,
    )

whole : (n : ℕ) → T (eqb (n % 8) 0) → 8 * (n / 8) ≡ n
whole n t = omega (arith, eqb→eq (n % 8) 0 t)

eight-of : (ns : List ℕ) → length ns ≡ 8
    → get_or ns 0 0 ∷ get_or ns 1 0 ∷ get_or ns 2 0 ∷ get_or ns 3 0 ∷ get_or ns 4 0 ∷ get_or ns 5 0 ∷ get_or ns 6 0 ∷ get_or ns 7 0 ∷ [] ≡ ns
eight-of [] e = absurd (omega (arith, e))
eight-of (a ∷ []) e = absurd (omega (arith, e))
eight-of (a ∷ b ∷ []) e = absurd (omega (arith, e))
eight-of (a ∷ b ∷ c ∷ []) e = absurd (omega (arith, e))
eight-of (a ∷ b ∷ c ∷ d ∷ []) e = absurd (omega (arith, e))
eight-of (a ∷ b ∷ c ∷ d ∷ f ∷ []) e = absurd (omega (arith, e))
eight-of (a ∷ b ∷ c ∷ d ∷ f ∷ g ∷ []) e = absurd (omega (arith, e))
eight-of (a ∷ b ∷ c ∷ d ∷ f ∷ g ∷ h ∷ []) e = absurd (omega (arith, e))
eight-of (a ∷ b ∷ c ∷ d ∷ f ∷ g ∷ h ∷ i ∷ []) e = refl
eight-of (a ∷ b ∷ c ∷ d ∷ f ∷ g ∷ h ∷ i ∷ j ∷ ns) e = absurd (omega (arith, e))

-- and are read back from it
pub numbers-back : (ns : List ℕ) → length ns ≡ 8 → T (eights ns) → numbers_out (timing_said ns) ≡ ns
unfolding numbers_out timing_said timing_of fifteen in_clocks eights every
numbers-back ns e t =
    let multiple : (k : ℕ) → Bool = λ k. eqb (get_or ns k 0 % 8) 0 in
    let tests : List Bool = multiple 0 ∷ multiple 1 ∷ multiple 2 ∷ multiple 3 ∷ [] in
    let passed : T (every (λ (x : Bool). x) tests) = subst (λ (l : List ℕ). T (every (λ (n : ℕ). eqb (n % 8) 0) (take 4 l))) (sym (eight-of ns e)) t in
    rw (
      whole (get_or ns 0 0) (each-passes tests 0 passed),
      whole (get_or ns 1 0) (each-passes tests 1 passed),
      whole (get_or ns 2 0) (each-passes tests 2 passed),
      whole (get_or ns 3 0) (each-passes tests 3 passed),
    )
    (eight-of ns e)
