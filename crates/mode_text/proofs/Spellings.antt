-- A number's decimal text is the only one of 02's form that spells it. Assumes nothing.
use Prim.Native.Nat.{ℕ, zero, suc, ◌+◌, ◌-◌, ◌*◌, ◌/◌, ◌%◌, ◌^◌, ◌≤◌, ◌<◌}
use mathlib.Core.Bool.{Bool, not, ◌&&◌, ◌||◌}
use mathlib.Core.List.{List, [], ◌∷◌, ◌++◌, map, append_assoc, append-nil}
use mathlib.Core.Path.{◌≡◌, refl, sym, ap, ap₂, ◌∙◌, subst}
use native.Mathlib.Nat.{mul_assoc, mul_comm, pow-suc}
use native.Mathlib.Omega.{arith}
use borrow.Author.Tests.{eqb-false}
use lib.Dec.{T, eqb, leb, eqb→eq}
use lib.ListN.{length, replicate}
use Rattle.io.specs.Digits.{last_digits, hex_digit_ascii}
use Rattle.bits.proofs.Test.{by-test, left, right}
use Rattle.text.proofs.Places.{one_place, more-places}
use Rattle.text.specs.Text.{decimal, decimal_places}
use Rattle.modes.proofs.Tokens.{digit-range, numeral-digits}
use Rattle.modes.specs.Form.{every, digit, numeral, value_from, value_of}
use Rattle.mode_text.proofs.Decimals.{glyph-is}

-- a digit behind a number: the tenth and the rest
module _ (v b : ℕ) (r : (0x30 ≤ b) × (b ≤ 0x39)) where
  tenth : (10 * v + (b - 0x30)) / 10 ≡ v
  tenth = omega (arith, r)

  last : hex_digit_ascii ((10 * v + (b - 0x30)) % 10) ≡ b
  last = ap hex_digit_ascii (let z : (10 * v + (b - 0x30)) % 10 ≡ b - 0x30 = omega (arith, r) in z) ∙ glyph-is (b - 0x30) (omega (arith, r)) ∙ omega (arith, r)

-- the last digits of what digits spell are these digits, and the first those of the number before them
digits-behind : (n k v : ℕ) (t : List ℕ) → T (every digit t) → n ≡ length t + k → last_digits 10 n (value_from v t) ≡ last_digits 10 k v ++ t
unfolding value_from every
digits-behind n k v [] d e = ap (λ (m : ℕ). last_digits 10 m v) (let z : n ≡ k = omega (arith, e) in z) ∙ sym (append-nil (last_digits 10 k v))
digits-behind n k v (b ∷ t) d e =
    let r = digit-range b (left (digit b) (every digit t) d) in
    digits-behind n (suc k) (10 * v + (b - 0x30)) t (right (digit b) (every digit t) d) (omega (arith, e))
    ∙ ap₂ (λ (m g : ℕ). (last_digits 10 k m ++ g ∷ []) ++ t) (tenth v b r) (last v b r)
    ∙ append_assoc (last_digits 10 k v) (b ∷ []) t

digits_of : (t : List ℕ) → T (every digit t) → last_digits 10 (length t) (value_of t) ≡ t
unfolding value_of
digits_of t d = digits-behind (length t) 0 0 t d (omega arith)

-- so many places more behind a number that isn't 0
places_behind : (v : ℕ) (t : List ℕ) → T (every digit t) → 0 < v → decimal_places (value_from v t) (value_from v t) ≡ length t + decimal_places v v
unfolding value_from every
places_behind v [] d h = omega arith
places_behind v (b ∷ t) d h =
    let r = digit-range b (left (digit b) (every digit t) d) in
    places_behind (10 * v + (b - 0x30)) t (right (digit b) (every digit t) d) (omega (arith, h))
    ∙ ap (λ (n : ℕ). length t + n) (more-places (10 * v + (b - 0x30)) (omega (arith, h)) ∙ ap (λ (n : ℕ). suc (decimal_places n n)) (tenth v b r))
    ∙ omega arith

-- a number of 02's form has as many digits as its decimal text
places_of : (t : List ℕ) → T (numeral t) → decimal_places (value_of t) (value_of t) ≡ length t
unfolding numeral value_of value_from
places_of [] n = absurd n
places_of (b ∷ t) n =
    let ds : T (digit b && every digit t) = left (digit b && every digit t) (not (eqb b 0x30) || eqb (length t) 0) n in
    let r = digit-range b (left (digit b) (every digit t) ds) in
    let one : decimal_places (10 * 0 + (b - 0x30)) (10 * 0 + (b - 0x30)) ≡ 1 = one_place (10 * 0 + (b - 0x30)) (10 * 0 + (b - 0x30)) (omega (arith, r)) in
    by-test (eqb b 0x30)
    (λ e. alone t (eqb→eq (length t) 0 (subst (λ (x : Bool). T (not x || eqb (length t) 0)) e (right (digit b && every digit t) (not (eqb b 0x30) || eqb (length t) 0) n))) one)
    (λ e. places_behind (10 * 0 + (b - 0x30)) t (right (digit b) (every digit t) ds) (omega (arith, r, eqb-false b 0x30 e))
    ∙ ap (λ (k : ℕ). length t + k) one ∙ omega arith)
  where
    alone : (s : List ℕ) → length s ≡ 0 → decimal_places (10 * 0 + (b - 0x30)) (10 * 0 + (b - 0x30)) ≡ 1
        → decimal_places (value_from (10 * 0 + (b - 0x30)) s) (value_from (10 * 0 + (b - 0x30)) s) ≡ suc (length s)
    alone [] e one = one
    alone (x ∷ s) e one = absurd (omega (arith, e))

pub decimal-of : (t : List ℕ) → T (numeral t) → decimal (value_of t) ≡ t
unfolding decimal
decimal-of t n = ap (λ (k : ℕ). last_digits 10 k (value_of t)) (places_of t n) ∙ digits_of t (numeral-digits t n)

-- and so do many
pub decimals-of : (most : ℕ) (ts : List (List ℕ)) → T (every (λ (t : List ℕ). numeral t && leb (length t) most) ts) → map decimal (map value_of ts) ≡ ts
unfolding every
decimals-of most [] e = refl
decimals-of most (t ∷ ts) e =
    let both : T (numeral t && leb (length t) most) = left (numeral t && leb (length t) most) (every (λ (u : List ℕ). numeral u && leb (length u) most) ts) e in
    ap₂ (λ (x : List ℕ) (xs : List (List ℕ)). x ∷ xs) (decimal-of t (left (numeral t) (leb (length t) most) both))
    (decimals-of most ts (right (numeral t && leb (length t) most) (every (λ (u : List ℕ). numeral u && leb (length u) most) ts) e))

-- zeros behind a number are tens of it
pub value-zeros : (v k : ℕ) → value_from v (replicate k 0x30) ≡ v * 10 ^ k
unfolding value_from
value-zeros v zero = omega arith
value-zeros v (suc k) =
    value-zeros (10 * v + 0) k
    ∙ ap (λ (x : ℕ). x * 10 ^ k) (let z : 10 * v + 0 ≡ v * 10 = omega arith in z)
    ∙ mul_assoc v 10 (10 ^ k) ∙ ap (λ (x : ℕ). v * x) (mul_comm 10 (10 ^ k) ∙ sym (pow-suc 10 k))

-- three digits behind a number are its thousandths
pub record Thousandths (v : ℕ) (t : List ℕ) : Type 0 where
  pub before : value_from v t / 1000 ≡ v
  pub behind : last_digits 10 3 (value_from v t % 1000) ≡ t

pub thousandths : (v : ℕ) (t : List ℕ) → length t ≡ 3 → T (every digit t) → Thousandths v t
unfolding value_from value_of every
thousandths v [] e d = absurd (omega (arith, e))
thousandths v (a ∷ []) e d = absurd (omega (arith, e))
thousandths v (a ∷ b ∷ []) e d = absurd (omega (arith, e))
thousandths v (a ∷ b ∷ c ∷ []) e d =
    let ra = digit-range a (left (digit a) (every digit (b ∷ c ∷ [])) d) in
    let db = right (digit a) (every digit (b ∷ c ∷ [])) d in
    let rb = digit-range b (left (digit b) (every digit (c ∷ [])) db) in
    let dc = right (digit b) (every digit (c ∷ [])) db in
    let rc = digit-range c (left (digit c) (every digit []) dc) in
    record {
      before = omega (arith, ra, rb, rc);
      behind =
          ap (last_digits 10 3)
          (let z : (10 * (10 * (10 * v + (a - 0x30)) + (b - 0x30)) + (c - 0x30)) % 1000 ≡ 10 * (10 * (10 * 0 + (a - 0x30)) + (b - 0x30)) + (c - 0x30) =
          omega (arith, ra, rb, rc) in z)
          ∙ digits_of (a ∷ b ∷ c ∷ []) d;
    }
thousandths v (a ∷ b ∷ c ∷ x ∷ t) e d = absurd (omega (arith, e))
