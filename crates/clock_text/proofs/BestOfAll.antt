-- The largest and the smallest rate: one of the sets has it, and no set has a better one. Assumes nothing.
use Rattle.std.specs.Prelude.{Option, Some, None, Ok, Err}
use Prim.Native.Nat.{ℕ, ◌+◌, ◌*◌, ◌<◌}
use mathlib.Core.Bool.{Bool, true, false, cond, not, ◌||◌}
use mathlib.Core.List.Memᴰ
use mathlib.Core.List.{List, [], ◌∷◌, Memᴰ}
use mathlib.Core.Logic.{◌⊎◌, inl, inr, ⊎_elim}
use mathlib.Core.Path.{◌≡◌, refl, sym, ◌∙◌, subst}
use native.Mathlib.Nat.{le_refl}
use native.Mathlib.Omega.{arith}
use borrow.Author.Tests.{ltb-true, ltb-false, le-ltb, eqb-false}
use lib.Dec.{eqb}
use lib.Ieee.Positive.{through}
use lib.ListN.{length}
use Rattle.std.proofs.lemmas.Option.{same_Some}
use Rattle.bits.specs.Store.{bit}
use Rattle.bits.proofs.Test.{by-test}
use Rattle.clock.specs.declared.terms.Terms.{Terms}
use Rattle.clock.specs.Clock.{denominator}
use Rattle.clock.proofs.RateRounds.{terms-positive}
use Rattle.clock_text.specs.declared.tally.Tally.{Tally}
use Rattle.clock_text.specs.Sets.{SetClock, below, better, counting, no_tally, set_clock, set_clocks, tallied}

-- the rates of sets
unfoldable pub rates_of : List SetClock → List Terms
rates_of [] = []
rates_of (Ok (Some x) ∷ cs) = x ∷ rates_of cs
rates_of (Ok None ∷ cs) = rates_of cs
rates_of (Err answer ∷ cs) = rates_of cs

-- each has a denominator
abbrev pub Proper : List Terms → Type 0
Proper xs = (x : Terms) → Memᴰ x xs → 0 < x.q

-- a test that tells which of two rates is better, of rates with denominators: not itself, not both ways, and what is no better than one that
-- is no better is none
record Tells (test : Terms → Terms → Bool) : Type 0 where
  itself : (x : Terms) → test x x ≡ false
  one_way : (x y : Terms) → test x y ≡ true → test y x ≡ false
  onward : (x y z : Terms) → 0 < y.q → test x y ≡ false → test y z ≡ false → test x z ≡ false

larger-tells : Tells below
unfolding below
larger-tells =
    record {
      itself = λ x. le-ltb (x.p * x.q) (x.p * x.q) (le_refl (x.p * x.q));
      one_way = λ x y e. le-ltb (y.p * x.q) (x.p * y.q) (omega (arith, ltb-true (x.p * y.q) (y.p * x.q) e));
      onward =
          λ x y z some e f. le-ltb (x.p * z.q) (z.p * x.q)
          (through z.p y.p x.p z.q y.q x.q some (ltb-false (y.p * z.q) (z.p * y.q) f) (ltb-false (x.p * y.q) (y.p * x.q) e));
    }

smaller-tells : Tells (λ (x y : Terms). below y x)
smaller-tells =
    record {
      itself = larger-tells.itself;
      one_way = λ x y e. larger-tells.one_way y x e;
      onward = λ x y z some e f. larger-tells.onward z y x some f e;
    }

module _ (test : Terms → Terms → Bool) where
  -- the best of a list, behind one that there may be, and behind one
  unfoldable best_of : Option Terms → List Terms → Option Terms
  best_of old [] = old
  best_of old (x ∷ xs) = best_of (Some (better test old x)) xs

  unfoldable best_behind : Terms → List Terms → Terms
  best_behind old [] = old
  best_behind old (x ∷ xs) = best_behind (better test (Some old) x) xs

  best_some : (old : Terms) (xs : List Terms) → best_of (Some old) xs ≡ Some (best_behind old xs)
  unfolding best_of best_behind
  best_some old [] = refl
  best_some old (x ∷ xs) = best_some (better test (Some old) x) xs

  best_first : (x : Terms) (xs : List Terms) → best_of None (x ∷ xs) ≡ Some (best_behind x xs)
  unfolding best_of better
  best_first x xs = best_some x xs

  best-among : (old : Terms) (xs : List Terms) → (best_behind old xs ≡ old) ⊎ Memᴰ (best_behind old xs) xs
  unfolding best_behind better
  best-among old [] = inl refl
  best-among old (x ∷ xs) =
      by-test (test old x)
      (λ e. rw e (inr (⊎_elim (λ same. Memᴰ.head same) (λ m. Memᴰ.tail m) (best-among x xs))))
      (λ e. rw e (⊎_elim (λ same. inl same) (λ m. inr (Memᴰ.tail m)) (best-among old xs)))

  -- of no rates there is none
  best_none : (xs : List Terms) → length xs ≡ 0 → best_of None xs ≡ None
  unfolding best_of
  best_none [] e = refl
  best_none (x ∷ xs) e = absurd (omega (arith, e))

  -- of others it is one of them
  best-there : (xs : List Terms) → 0 < length xs → (best : Terms) × (best_of None xs ≡ Some best) × Memᴰ best xs
  best-there [] some = absurd (omega (arith, some))
  best-there (x ∷ xs) some =
      (best_behind x xs, best_first x xs, ⊎_elim (λ same. Memᴰ.head same) (λ m. Memᴰ.tail m) (best-among x xs))

module _ (test : Terms → Terms → Bool) (tells : Tells test) where
  -- one rate behind the best so far
  module _ (old new : Terms) where
    chosen-positive : 0 < old.q → 0 < new.q → 0 < (better test (Some old) new).q
    unfolding better
    chosen-positive there some = by-test (test old new) (λ t. rw t some) (λ t. rw t there)

    -- it is no better
    chosen-new : test (better test (Some old) new) new ≡ false
    unfolding better
    chosen-new = by-test (test old new) (λ t. rw t (tells.itself new)) (λ t. rw t t)

    -- nor is what was no better before
    chosen-old : (x : Terms) → 0 < old.q → test old x ≡ false → test (better test (Some old) new) x ≡ false
    unfolding better
    chosen-old x there f =
        by-test (test old new) (λ t. rw t (tells.onward new old x there (tells.one_way old new t) f)) (λ t. rw t f)

  best-above : (old : Terms) (xs : List Terms) → 0 < old.q → Proper xs → (x : Terms) → (test old x ≡ false) ⊎ Memᴰ x xs
      → test (best_behind test old xs) x ≡ false
  unfolding best_behind
  best-above old [] there proper x (inl h) = h
  best-above old [] there proper x (inr m) = absurd (Memᴰ.not-nil m)
  best-above old (y ∷ ys) there proper x h =
      best-above (better test (Some old) y) ys (chosen-positive old y there (proper y (Memᴰ.head refl))) (λ z m. proper z (Memᴰ.tail m)) x
      (⊎_elim (λ f. inl (chosen-old old y x there f)) (λ m. ⊎_elim (λ e. inl (subst (λ (z : Terms). test (better test (Some old) y) z ≡ false) (sym e) (chosen-new old y))) (λ k. inr k) (Memᴰ.cases_cons m)) h)

  -- no rate of a list is better than the best
  best-of-all : (xs : List Terms) → Proper xs → (best x : Terms) → best_of test None xs ≡ Some best → Memᴰ x xs → test best x ≡ false
  best-of-all [] proper best x e m = absurd (Memᴰ.not-nil m)
  best-of-all (y ∷ ys) proper best x e m =
      let same : best_behind test y ys ≡ best = same_Some _ _ (sym (best_first test y ys) ∙ e) in
      rw (← same)
      (best-above y ys (proper y (Memᴰ.head refl)) (λ z k. proper z (Memᴰ.tail k)) x
      (⊎_elim (λ h. inl (subst (λ (z : Terms). test y z ≡ false) (sym h) (tells.itself y))) (λ k. inr k) (Memᴰ.cases_cons m)))

-- what is counted is the best by each test
largest-best : (t : Tally) (cs : List SetClock) → (tallied t cs).largest ≡ best_of below t.largest (rates_of cs)
unfolding tallied counting rates_of best_of
largest-best t [] = refl
largest-best t (Ok (Some x) ∷ cs) = largest-best (counting t (Ok (Some x))) cs
largest-best t (Ok None ∷ cs) = largest-best (counting t (Ok None)) cs
largest-best t (Err answer ∷ cs) = largest-best (counting t (Err answer)) cs

smallest-best : (t : Tally) (cs : List SetClock) → (tallied t cs).smallest ≡ best_of (λ (x y : Terms). below y x) t.smallest (rates_of cs)
unfolding tallied counting rates_of best_of
smallest-best t [] = refl
smallest-best t (Ok (Some x) ∷ cs) = smallest-best (counting t (Ok (Some x))) cs
smallest-best t (Ok None ∷ cs) = smallest-best (counting t (Ok None)) cs
smallest-best t (Err answer ∷ cs) = smallest-best (counting t (Err answer)) cs

-- a set's rate has a denominator
Good : SetClock → Type 0
Good (Ok (Some x)) = 0 < x.q
Good (Ok None) = Unit
Good (Err answer) = Unit

set-good : (d n z : ℕ) → Good (set_clock d n z)
unfolding set_clock Good
set-good d n z =
    by-test (eqb (bit 7 n) 1 || not (eqb z 0)) (λ t. rw t tt)
    (λ t. rw t (by-test (eqb (denominator d) 0) (λ e. rw e tt)
    (λ e. rw e (terms-positive d n (omega (arith, eqb-false (denominator d) 0 e))))))

proper-next : (c : SetClock) (cs : List SetClock) → Good c → Proper (rates_of cs) → Proper (rates_of (c ∷ cs))
unfolding rates_of Good
proper-next (Ok (Some y)) cs good proper x m =
    ⊎_elim (λ e. subst (λ (z : Terms). 0 < z.q) (sym e) good) (λ k. proper x k) (Memᴰ.cases_cons m)
proper-next (Ok None) cs good proper x m = proper x m
proper-next (Err answer) cs good proper x m = proper x m

pub rates-proper : (input : List ℕ) → Proper (rates_of (set_clocks input))
unfolding set_clocks rates_of
rates-proper [] x m = absurd (Memᴰ.not-nil m)
rates-proper (d ∷ []) x m = absurd (Memᴰ.not-nil m)
rates-proper (d ∷ n ∷ []) x m = absurd (Memᴰ.not-nil m)
rates-proper (d ∷ n ∷ z ∷ rest) x m = proper-next (set_clock d n z) (set_clocks rest) (set-good d n z) (rates-proper rest) x m

-- 02, 12/13: 'the largest and smallest rate by whole-number comparison', of a whole input
module _ (input : List ℕ) where
  abbrev Rates : List Terms
  Rates = rates_of (set_clocks input)

  abbrev All : Tally
  All = tallied no_tally (set_clocks input)

  abbrev Smaller : Terms → Terms → Bool
  Smaller = λ (x y : Terms). below y x

  largest-is : All.largest ≡ best_of below None Rates
  unfolding no_tally
  largest-is = largest-best no_tally (set_clocks input)

  smallest-is : All.smallest ≡ best_of Smaller None Rates
  unfolding no_tally
  smallest-is = smallest-best no_tally (set_clocks input)

  -- no set has a larger rate than the largest, nor a smaller one than the smallest
  pub none-larger : (best x : Terms) → All.largest ≡ Some best → Memᴰ x Rates → below best x ≡ false
  none-larger best x e m = best-of-all below larger-tells Rates (rates-proper input) best x (sym largest-is ∙ e) m

  pub none-smaller : (best x : Terms) → All.smallest ≡ Some best → Memᴰ x Rates → below x best ≡ false
  none-smaller best x e m = best-of-all Smaller smaller-tells Rates (rates-proper input) best x (sym smallest-is ∙ e) m

  -- and where there is a rate both are rates of sets
  pub largest-there : 0 < length Rates → (best : Terms) × (All.largest ≡ Some best) × Memᴰ best Rates
  largest-there some = let there = best-there below Rates some in (there.0, largest-is ∙ there.1, there.2)

  pub smallest-there : 0 < length Rates → (best : Terms) × (All.smallest ≡ Some best) × Memᴰ best Rates
  smallest-there some = let there = best-there Smaller Rates some in (there.0, smallest-is ∙ there.1, there.2)

  -- '"none" if no set has a rate', and only then: a rate's denominator is above 0
  pub no-rate-none : length Rates ≡ 0 → (All.largest ≡ None) × (All.smallest ≡ None)
  no-rate-none none = (largest-is ∙ best_none below Rates none, smallest-is ∙ best_none Smaller Rates none)

  pub rate-some : 0 < length Rates
      → ((best : Terms) × (All.largest ≡ Some best) × (0 < best.q)) × ((best : Terms) × (All.smallest ≡ Some best) × (0 < best.q))
  rate-some some =
      let largest = largest-there some in
      let smallest = smallest-there some in
      ((largest.0, largest.1, rates-proper input largest.0 largest.2), (smallest.0, smallest.1, rates-proper input smallest.0 smallest.2))

-- every set is counted once
pub counts_all : (t : Tally) (cs : List SetClock) → (tallied t cs).rates + (tallied t cs).nones + (tallied t cs).refused ≡ t.rates + t.nones + t.refused + length cs
unfolding tallied counting
counts_all t [] = omega arith
counts_all t (Ok (Some x) ∷ cs) = counts_all (counting t (Ok (Some x))) cs ∙ omega arith
counts_all t (Ok None ∷ cs) = counts_all (counting t (Ok None)) cs ∙ omega arith
counts_all t (Err answer ∷ cs) = counts_all (counting t (Err answer)) cs ∙ omega arith

pub rates-counted : (t : Tally) (cs : List SetClock) → (tallied t cs).rates ≡ t.rates + length (rates_of cs)
unfolding tallied counting rates_of
rates-counted t [] = omega arith
rates-counted t (Ok (Some x) ∷ cs) = rates-counted (counting t (Ok (Some x))) cs ∙ omega arith
rates-counted t (Ok None ∷ cs) = rates-counted (counting t (Ok None)) cs
rates-counted t (Err answer ∷ cs) = rates-counted (counting t (Err answer)) cs

-- how many sets there are of a kind
unfoldable pub how_many : (SetClock → Bool) → List SetClock → ℕ
how_many kind [] = 0
how_many kind (c ∷ cs) = cond (kind c) 1 0 + how_many kind cs

unfoldable pub is_none : SetClock → Bool
is_none (Ok (Some x)) = false
is_none (Ok None) = true
is_none (Err answer) = false

unfoldable pub is_refused : SetClock → Bool
is_refused (Ok (Some x)) = false
is_refused (Ok None) = false
is_refused (Err answer) = true

-- a count that each set of a kind adds 1 to
kind-counted : (count : Tally → ℕ) (kind : SetClock → Bool) → ((t : Tally) (c : SetClock) → count (counting t c) ≡ count t + cond (kind c) 1 0)
    → (t : Tally) (cs : List SetClock) → count (tallied t cs) ≡ count t + how_many kind cs
unfolding tallied how_many
kind-counted count kind each t [] = omega arith
kind-counted count kind each t (c ∷ cs) = kind-counted count kind each (counting t c) cs ∙ omega (arith, each t c)

none-adds : (t : Tally) (c : SetClock) → (counting t c).nones ≡ t.nones + cond (is_none c) 1 0
unfolding counting is_none
none-adds t (Ok (Some x)) = omega arith
none-adds t (Ok None) = refl
none-adds t (Err answer) = omega arith

refused-adds : (t : Tally) (c : SetClock) → (counting t c).refused ≡ t.refused + cond (is_refused c) 1 0
unfolding counting is_refused
refused-adds t (Ok (Some x)) = omega arith
refused-adds t (Ok None) = omega arith
refused-adds t (Err answer) = refl

-- and so are nones and refused sets
pub nones-counted : (t : Tally) (cs : List SetClock) → (tallied t cs).nones ≡ t.nones + how_many is_none cs
nones-counted = kind-counted (λ t. t.nones) is_none none-adds

pub refused-counted : (t : Tally) (cs : List SetClock) → (tallied t cs).refused ≡ t.refused + how_many is_refused cs
refused-counted = kind-counted (λ t. t.refused) is_refused refused-adds
