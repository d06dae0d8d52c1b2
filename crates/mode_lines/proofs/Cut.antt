-- Where a part's first line ends. Assumes nothing.
use Prim.Native.Nat.{ℕ, suc, ◌+◌, ◌≤◌, ◌<◌}
use mathlib.Core.Bool.{Bool, true, false, cond, not, true≢false}
use mathlib.Core.List.{List, [], ◌∷◌}
use mathlib.Core.Path.{◌≡◌, refl, sym, ap, ◌∙◌, subst}
use native.Mathlib.Omega.{arith}
use borrow.Author.Tests.{ltb-true, ltb-false}
use lib.Dec.{eqb, ltb}
use Rattle.std.proofs.lemmas.List.{take_all}
use lib.ListN.{length, take}
use Rattle.io.specs.Counts.{IsPrefixLen}
use Rattle.bits.proofs.Test.{by-test}
use Rattle.std.specs.Prelude.{Option, Some, None}
use Rattle.std.specs.List.{position, prefix_len}
use Rattle.mode_lines.specs.Kept.{Kept}
use Rattle.mode_lines.specs.Lines.{TookLine, up_to, has_newline}
use Rattle.mode_lines.proofs.Laying.{kept-counts}

-- a line is a part's first bytes
pub up-to-take : (part : List ℕ) → take (length (up_to part)) part ≡ up_to part
unfolding up_to
up-to-take [] = refl
up-to-take (b ∷ s) =
    by-test (eqb b 0x0A)
    (λ e. rw e)
    (λ e. rw e (ap (λ (l : List ℕ). b ∷ l) (up-to-take s)))

pub up-to-most : (part : List ℕ) → length (up_to part) ≤ length part
unfolding up_to
up-to-most [] = omega arith
up-to-most (b ∷ s) = by-test (eqb b 0x0A) (λ e. rw e (omega arith)) (λ e. rw e (omega (arith, up-to-most s)))

-- where it ends before the part, there is a newline, and only there
pub up-to-ended : (part : List ℕ) → length (up_to part) < length part → has_newline part ≡ true
unfolding up_to has_newline
up-to-ended [] = λ h. absurd (omega (arith, h))
up-to-ended (b ∷ s) = by-test (eqb b 0x0A) (λ e. rw e (λ h. refl)) (λ e. rw e (λ h. up-to-ended s (omega (arith, h))))

pub up-to-open : (part : List ℕ) → length part ≤ length (up_to part) → has_newline part ≡ false
unfolding up_to has_newline
up-to-open [] = λ h. refl
up-to-open (b ∷ s) = by-test (eqb b 0x0A) (λ e. rw e (λ h. absurd (omega (arith, h)))) (λ e. rw e (λ h. up-to-open s (omega (arith, h))))

pub ended-less : (part : List ℕ) → has_newline part ≡ true → length (up_to part) < length part
unfolding up_to has_newline
ended-less [] = λ h. absurd (true≢false (sym h))
ended-less (b ∷ s) = by-test (eqb b 0x0A) (λ e. rw e (λ h. omega arith)) (λ e. rw e (λ h. omega (arith, ended-less s h)))

-- without one all of it is the line's
pub up-to-all : (part : List ℕ) → has_newline part ≡ false → length (up_to part) ≡ length part
unfolding up_to has_newline
up-to-all [] = λ h. refl
up-to-all (b ∷ s) = by-test (eqb b 0x0A) (λ e. rw e (λ h. absurd (true≢false h))) (λ e. rw e (λ h. ap suc (up-to-all s h)))

-- the place of the first newline is where the line ends
up-to-count : (part : List ℕ) → prefix_len (λ b. not (eqb b 0x0A)) part ≡ length (up_to part)
unfolding up_to
up-to-count [] = refl
up-to-count (b ∷ s) =
    by-test (eqb b 0x0A)
    (λ e. rw e refl)
    (λ e. rw e (ap (λ (n : ℕ). 1 + n) (up-to-count s) ∙ omega arith))

abbrev Cut : List ℕ → Option ℕ → Type 0
Cut part None = length part ≤ length (up_to part)
Cut part (Some k) = (k ≡ length (up_to part)) × (k < length part)

pub newline-cut : (part : List ℕ) (r : Option ℕ) → position (λ b. eqb b 0x0A) part ≡ r → Cut part r
newline-cut part r e = subst (Cut part) (sym place ∙ e) (by-test (ltb size (length part)) before (λ t. behind t))
  where
    size : ℕ
    size = length (up_to part)

    place : position (λ b. eqb b 0x0A) part ≡ cond (ltb size (length part)) (Some size) None
    place = ap (λ (n : ℕ). cond {A = Option ℕ} (ltb n (length part)) (Some n) None) (up-to-count part)

    before : ltb size (length part) ≡ true → Cut part (cond (ltb size (length part)) (Some size) None)
    before t = rw t (refl, ltb-true size (length part) t)

    behind : ltb size (length part) ≡ false → Cut part (cond (ltb size (length part)) (Some size) None)
    behind t = rw t (ltb-false size (length part) t)

-- a line taken, and how many bytes that took
module _ (part before : List ℕ) (count : ℕ) (after : List ℕ) (kept : ℕ) where
  abbrev Answer : ℕ → Bool → Type 0
  Answer used ended =
      TookLine part before count after (record { used = used; count = kept; ended = ended })
      × (IsPrefixLen kept after × ((used ≤ length part) × (0 < length part → 0 < used)))

  pub took-whole : (k : ℕ) → position (λ b. eqb b 0x0A) part ≡ Some k → Kept before count (take k part) after kept → Answer (k + 1) true
  took-whole k e w =
      let c = newline-cut part (Some k) e in
      let there = up-to-ended part (omega (arith, c.0, c.1)) in
      let line : Kept before count (up_to part) after kept = rw (c.0, up-to-take) at w in (
        record { kept = line; ended = sym there; used = rw there (omega (arith, c.0)) },
        (kept-counts line, (omega (arith, c.1), λ n. omega arith)),
      )

  pub took-begun : position (λ b. eqb b 0x0A) part ≡ None → Kept before count part after kept → Answer (length part) false
  took-begun e w =
      let c : length part ≤ length (up_to part) = newline-cut part None e in
      let none = up-to-open part c in
      let all : up_to part ≡ part = sym (up-to-take part) ∙ take_all (length (up_to part)) part c in
      let line : Kept before count (up_to part) after kept = subst (λ (l : List ℕ). Kept before count l after kept) (sym all) w in (
        record { kept = line; ended = sym none; used = rw none (omega (arith, ap length all)) },
        (kept-counts line, (omega arith, λ n. n)),
      )
