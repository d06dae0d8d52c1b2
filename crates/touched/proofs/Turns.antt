-- How many marks are set, and whether two lists agree at each number, of lists gone through from the front. Assumes nothing.
use Prim.Native.Nat.{ℕ, zero, suc, ◌+◌, ◌≤◌}
use mathlib.Core.Path.{◌≡◌, refl, sym, ap, subst, ◌∙◌}
use mathlib.Core.Bool.{Bool, true, false, cond, ◌&&◌, ◌||◌}
use mathlib.Core.List.{List, [], ◌∷◌}
use native.Mathlib.Omega.{arith}
use lib.ListN.{length}
use Rattle.std.proofs.lemmas.List.Sums.{sum_by-cons}
use Rattle.std.specs.List.{list_all}
use Rattle.std.specs.Prelude.{count_by, zip}
use Rattle.bits.specs.Every.{every_below}
use Rattle.touched.specs.Outside.{agrees_at}
use Rattle.touched.specs.Things.{one, many}

-- ---- counting

many-counted : (marks : List Bool) → count_by (λ (named : Bool). named) marks ≡ many marks
unfolding many one
many-counted [] = refl
many-counted (named ∷ marks) = sum_by-cons (λ (b : Bool). cond b 1 0) named marks ∙ ap (λ (n : ℕ). one named + n) (many-counted marks)

pub counted : (marks : List Bool) {n : ℕ} → n ≡ count_by (λ (named : Bool). named) marks → n ≡ many marks
counted marks told = told ∙ many-counted marks

one-few : (b : Bool) → one b ≤ 1
unfolding one
one-few true = omega arith
one-few false = omega arith

pub many-few : (marks : List Bool) → many marks ≤ length marks
unfolding many
many-few [] = omega arith
many-few (b ∷ marks) = omega (arith, one-few b, many-few marks)

-- ---- comparing

swap-and : (a b c : Bool) → (a && (b && c)) ≡ (b && (a && c))
swap-and true b c = refl
swap-and false true c = refl
swap-and false false c = refl

every-first : (test : ℕ → Bool) (k : ℕ) → every_below test (suc k) ≡ (test 0 && every_below (λ (n : ℕ). test (suc n)) k)
unfolding every_below
every-first test zero = refl
every-first test (suc k) =
    ap (λ (b : Bool). test (suc k) && b) (every-first test k) ∙ swap-and (test (suc k)) (test 0) (every_below (λ (n : ℕ). test (suc n)) k)

pub all-agree : {A : Type 0} (same : A → A → Bool) (none : A) (named : List Bool) (from to : List A) → length from ≡ length named → length to ≡ length named
    → list_all (λ (place : Bool × (A × A)). place.0 || same place.1.0 place.1.1) (zip named (zip from to))
    ≡ every_below (agrees_at same none named from to) (length named)
unfolding agrees_at every_below
all-agree same none [] from to e e' = refl
all-agree same none (b ∷ named) [] to e e' = absurd (omega arith)
all-agree same none (b ∷ named) (f ∷ from) [] e e' = absurd (omega arith)
all-agree same none (b ∷ named) (f ∷ from) (t ∷ to) e e' =
    ap (λ (rest : Bool). (b || same f t) && rest) (all-agree same none named from to (omega arith) (omega arith))
    ∙ sym (every-first (agrees_at same none (b ∷ named) (f ∷ from) (t ∷ to)) (length named))

-- the same of so many marks, where a test told it
pub agreed : {A : Type 0} (same : A → A → Bool) (none : A) (named : List Bool) (from to : List A) {k : ℕ} (result : Bool) → length named ≡ k → length from ≡ k → length to ≡ k
    → result ≡ list_all (λ (place : Bool × (A × A)). place.0 || same place.1.0 place.1.1) (zip named (zip from to))
    → result ≡ every_below (agrees_at same none named from to) k
agreed same none named from to result n f t told =
    subst (λ (m : ℕ). result ≡ every_below (agrees_at same none named from to) m) n (told ∙ all-agree same none named from to (f ∙ sym n) (t ∙ sym n))
