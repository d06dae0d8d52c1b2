-- A number counted up in its digits. Assumes nothing.
use Prim.Native.Nat.{ℕ, zero, suc, ◌+◌, ◌-◌, ◌/◌, ◌%◌, ◌≤◌, ◌<◌}
use mathlib.Core.Path.{◌≡◌, refl, sym, ap, ◌∙◌}
use mathlib.Core.List.{List, [], ◌∷◌, ◌++◌}
use native.Mathlib.Nat.{mod-lt}
use native.Mathlib.Omega.{arith}
use borrow.Author.Tests.{lt-ltb, ltb-true, ltb-false}
use lib.Dec.{ltb, lit<}
use lib.ListN.{length, set, take, get_or, drop, length-take}
use lib.Seq.{get_or_at, get_or-take, set_at, sets-eq, take_at, take-set-lt}
use Rattle.io.specs.Digits.{last_digits}
use Rattle.bits.proofs.Test.{by-test}
use Rattle.text.specs.Counted.{Next, Spells}
use Rattle.text.specs.Lent.{Wrote}
use Rattle.text.specs.Text.{decimal, decimal_places}
use Rattle.text.proofs.Places.{more-places, one_place}
use Rattle.text.proofs.Spelled.{digits-length}

-- a number has a digit
pub some-places : (n : ℕ) → 0 < decimal_places n n
some-places n =
    by-test (ltb n 10) (λ e. rw (one_place n n (ltb-true n 10 e)) (omega arith)) (λ e. rw (more-places n (ltb-false n 10 e)) (omega arith))

module _ (n : ℕ) (low : n % 10 < 9) where
  tenth : (n + 1) / 10 ≡ n / 10
  tenth = omega arith

  -- the next number has as many where the last digit is no 9
  places-up : decimal_places (n + 1) (n + 1) ≡ decimal_places n n
  places-up =
      by-test (ltb n 10)
      (λ e. one_place (n + 1) (n + 1) (omega (arith, ltb-true n 10 e)) ∙ sym (one_place n n (ltb-true n 10 e)))
      (λ e. let h : 10 ≤ n = ltb-false n 10 e in
      more-places (n + 1) (omega arith) ∙ ap (λ (t : ℕ). suc (decimal_places t t)) tenth ∙ sym (more-places n h))

  digits_up : (k : ℕ) → last_digits 10 (suc k) (n + 1) ≡ last_digits 10 k (n / 10) ++ ((48 + n % 10 + 1) ∷ [])
  digits_up k =
      let last : (n + 1) % 10 ≡ n % 10 + 1 = omega arith in
      rw (last, tenth, lt-ltb (n % 10 + 1) 10 (omega arith)) (ap (λ (d : ℕ). last_digits 10 k (n / 10) ++ (d ∷ [])) (omega arith))

-- the digits of a number by the last
by_last : (k n : ℕ) → last_digits 10 (suc k) n ≡ last_digits 10 k (n / 10) ++ ((48 + n % 10) ∷ [])
by_last k n = rw (lt-ltb (n % 10) 10 (mod-lt n (lit< tt))) refl

module _ (figures : List ℕ) (k n : ℕ) where
  last-figure : take (suc k) figures ≡ last_digits 10 (suc k) n → get_or figures k 0 ≡ 48 + n % 10
  last-figure e =
      sym (get_or-take (suc k) figures k 0 (omega arith))
      ∙ ap (λ (l : List ℕ). get_or l k 0) (e ∙ by_last k n)
      ∙ get_or_at (last_digits 10 k (n / 10)) (48 + n % 10) [] 0 k (digits-length k (n / 10))

  figures-up : take (suc k) figures ≡ last_digits 10 (suc k) n → n % 10 < 9
      → take (suc k) (set figures k (48 + n % 10 + 1)) ≡ last_digits 10 (suc k) (n + 1)
  figures-up e low =
      take-set-lt (suc k) figures k (48 + n % 10 + 1) (omega arith)
      ∙ ap (λ (l : List ℕ). set l k (48 + n % 10 + 1)) (e ∙ by_last k n)
      ∙ set_at (last_digits 10 k (n / 10)) (48 + n % 10) [] (48 + n % 10 + 1) k (digits-length k (n / 10))
      ∙ sym (digits_up n low k)

-- the digits are there
pub as_long : {n : ℕ} {figures : List ℕ} {size : ℕ} → Spells n figures size → length (take size figures) ≡ size
unfolding decimal
as_long {n} s = ap length s.spelled ∙ digits-length (decimal_places n n) n ∙ sym s.many

pub long-enough : {n : ℕ} {figures : List ℕ} {size : ℕ} → Spells n figures size → size ≤ length figures
long-enough {n} {figures} {size} s = omega (arith, length-take size figures, as_long s)

-- the digits of a number are those of the next with the last one more, unless it is a 9
pub counted-up : (n : ℕ) (figures : List ℕ) (size : ℕ) → Spells n figures size → Next (n + 1) figures size
unfolding Next decimal
counted-up n figures zero s low = absurd (omega (arith, s.many, some-places n))
counted-up n figures (suc k) s low =
    let here : suc k - 1 ≡ k = omega arith in
    let e : take (suc k) figures ≡ last_digits 10 (suc k) n = s.spelled ∙ ap (λ (j : ℕ). last_digits 10 j n) (sym s.many) in
    let last = last-figure figures k n e in
    let below : n % 10 < 9 = omega (arith, last, rw here at low) in
    let many : suc k ≡ decimal_places (n + 1) (n + 1) = s.many ∙ sym (places-up n below) in
    record {
      many = many;
      spelled = rw (here, last) (figures-up figures k n e below) ∙ ap (λ (j : ℕ). last_digits 10 j (n + 1)) many;
    }

-- the digits that were stored at the start are spelled
pub spelled-anew : (n : ℕ) (before after : List ℕ) (size end : ℕ) → size ≡ decimal_places n n → size ≤ length before
    → Wrote before 0 (last_digits 10 size n) after end → Spells n after size
unfolding decimal
spelled-anew n before after size end e h w =
    let room : 0 + length (last_digits 10 size n) ≤ length before = omega (arith, digits-length size n) in
    let all : after ≡ last_digits 10 size n ++ drop (0 + length (last_digits 10 size n)) before = w.bytes ∙ sets-eq (last_digits 10 size n) before 0 room in
    record {
      many = e;
      spelled = ap (take size) all ∙ take_at (last_digits 10 size n) _ size (digits-length size n) ∙ ap (λ (j : ℕ). last_digits 10 j n) e;
    }
