-- The bytes that a runner walks are 02's: a name, a number, decimals. Assumes nothing.
use Prim.Native.Nat.{ℕ, suc, ◌+◌, ◌-◌, ◌*◌, ◌^◌, ◌≤◌, ◌<◌}
use mathlib.Core.Bool.{Bool, true, false, not, ◌&&◌, ◌||◌}
use mathlib.Core.List.{List, [], ◌∷◌, ◌++◌}
use mathlib.Core.Path.{◌≡◌, refl, sym, ap, ◌∙◌, subst}
use native.Mathlib.Nat.{mul_assoc, mul_comm, pow-suc}
use native.Mathlib.Omega.{arith}
use borrow.Author.Tests.{eqb-true, eqb-false, ne_eqb}
use lib.Dec.{T, eqb, leb, ltb, ltb→lt, lt→ltb, leb→le, eqb→eq, not_T}
use lib.ListN.{length}
use Rattle.bits.proofs.Test.{by-test, left, right, both}
use Rattle.modes.specs.Form.{every, name_byte, digit, numeral, value_from, value_of}
use Rattle.modes.specs.Scan.{name_runner, Digits, spell, digit_runner, decimal_runner}
use Rattle.modes.proofs.Readers.{walks, after}

-- a name
pub name-walked : (c : ℕ) (ds : List ℕ) → c ≤ 32 → T (walks name_runner c ds) → T (every name_byte ds) × (c + length ds ≤ 32)
unfolding walks name_runner every
name-walked c [] h t = (tt, omega arith)
name-walked c (b ∷ ds) h t =
    let now : T (name_byte b && ltb c 32) = left (name_byte b && ltb c 32) (walks name_runner (suc c) ds) t in
    let then = name-walked (suc c) ds (omega (arith, ltb→lt c 32 (right (name_byte b) (ltb c 32) now))) (right (name_byte b && ltb c 32) (walks name_runner (suc c) ds) t) in
    (both (name_byte b) (every name_byte ds) (left (name_byte b) (ltb c 32) now) then.0, omega (arith, then.1))

pub name-walks : (c : ℕ) (ds : List ℕ) → T (every name_byte ds) → c + length ds ≤ 32 → T (walks name_runner c ds)
unfolding walks name_runner every
name-walks c [] t h = tt
name-walks c (b ∷ ds) t h =
    both (name_byte b && ltb c 32) (walks name_runner (suc c) ds)
    (both (name_byte b) (ltb c 32) (left (name_byte b) (every name_byte ds) t) (lt→ltb c 32 (omega arith)))
    (name-walks (suc c) ds (right (name_byte b) (every name_byte ds) t) (omega arith))

pub name-after : (c : ℕ) (ds : List ℕ) → after name_runner c ds ≡ c + length ds
unfolding after name_runner
name-after c [] = omega arith
name-after c (b ∷ ds) = name-after (suc c) ds ∙ omega arith

-- digits: a state that has so many left and spelled so much
abbrev pub at : ℕ → ℕ → Digits
at l v = record { left = l; value = v }

abbrev put : ℕ → ℕ → ℕ
put v b = 10 * v + (b - 0x30)

-- behind a number that is not 0 any digit may come
next-some : (l v b : ℕ) → 0 < put v b → digit_runner.next (at l v) b ≡ at (l - 1) (put v b)
unfolding digit_runner spell
next-some l v b h = rw (ne_eqb (put v b) 0 (λ e. omega (arith, e)))

pub digits-walked : (l v : ℕ) (ds : List ℕ) → 0 < v → T (walks digit_runner (at l v) ds) → T (every digit ds) × (length ds ≤ l)
unfolding walks every digit_runner
digits-walked l v [] h t = (tt, omega arith)
digits-walked l v (b ∷ ds) h t =
    let now : T (digit b && ltb 0 l) = left (digit b && ltb 0 l) (walks digit_runner (digit_runner.next (at l v) b) ds) t in
    let then =
    digits-walked (l - 1) (put v b) ds (omega arith)
    (subst (λ (q : Digits). T (walks digit_runner q ds)) (next-some l v b (omega arith))
    (right (digit b && ltb 0 l) (walks digit_runner (digit_runner.next (at l v) b) ds) t))
    in (
      both (digit b) (every digit ds) (left (digit b) (ltb 0 l) now) then.0,
      omega (arith, then.1, ltb→lt 0 l (right (digit b) (ltb 0 l) now)),
    )

pub digits-walk : (l v : ℕ) (ds : List ℕ) → 0 < v → T (every digit ds) → length ds ≤ l → T (walks digit_runner (at l v) ds)
unfolding walks every digit_runner
digits-walk l v [] h t n = tt
digits-walk l v (b ∷ ds) h t n =
    both (digit b && ltb 0 l) (walks digit_runner (digit_runner.next (at l v) b) ds)
    (both (digit b) (ltb 0 l) (left (digit b) (every digit ds) t) (lt→ltb 0 l (omega arith)))
    (subst (λ (q : Digits). T (walks digit_runner q ds)) (sym (next-some l v b (omega arith)))
    (digits-walk (l - 1) (put v b) ds (omega arith) (right (digit b) (every digit ds) t) (omega arith)))

pub digits-after : (l v : ℕ) (ds : List ℕ) → 0 < v → after digit_runner (at l v) ds ≡ at (l - length ds) (value_from v ds)
unfolding after value_from
digits-after l v [] h = ap (λ (x : ℕ). at x v) (omega arith)
digits-after l v (b ∷ ds) h =
    ap (λ (q : Digits). after digit_runner q ds) (next-some l v b (omega arith))
    ∙ digits-after (l - 1) (put v b) ds (omega arith)
    ∙ ap (λ (x : ℕ). at x (value_from (put v b) ds)) (omega arith)

-- a digit is 0, or spells more than 0
pub digit-range : (b : ℕ) → T (digit b) → (0x30 ≤ b) × (b ≤ 0x39)
unfolding digit
digit-range b t = (leb→le 0x30 b (left (leb 0x30 b) (leb b 0x39) t), leb→le b 0x39 (right (leb 0x30 b) (leb b 0x39) t))

-- a number: what the runner walks from the start, so that it is not at the start any more
pub record Token (most : ℕ) (ds : List ℕ) : Type 0 where
  pub numbered : T (numeral ds)
  pub short : length ds ≤ most

next-zero : (l b : ℕ) → b ≡ 0x30 → digit_runner.next (at l 0) b ≡ at 0 0
unfolding digit_runner spell
next-zero l b e = rw e

none_left : (v : ℕ) (ds : List ℕ) → T (walks digit_runner (at 0 v) ds) → ds ≡ []
unfolding walks digit_runner
none_left v [] t = refl
none_left v (b ∷ ds) t =
    absurd (right (digit b) false (left (digit b && ltb 0 0) (walks digit_runner (digit_runner.next (at 0 v) b) ds) t))

-- of digits, the first, and those behind it
module _ (most b : ℕ) (ds : List ℕ) where
  first-zero : 0 < most → b ≡ 0x30 → ds ≡ [] → Token most (b ∷ ds)
  unfolding numeral every digit
  first-zero m e n = rw (e, n) (record { numbered = tt; short = omega arith })

  first_some : T (digit b) → (b ≡ 0x30 → ⊥) → T (every digit ds) → suc (length ds) ≤ most → Token most (b ∷ ds)
  unfolding numeral
  first_some d e t n =
      record {
        numbered =
            both (digit b && every digit ds) (not (eqb b 0x30) || eqb (length ds) 0) (both (digit b) (every digit ds) d t)
            (rw (ne_eqb b 0x30 e) tt);
        short = n;
      }

  pub token-walked : T (walks digit_runner (at most 0) (b ∷ ds)) → Token most (b ∷ ds)
  unfolding walks digit_runner
  token-walked t =
      let now : T (digit b && ltb 0 most) = left (digit b && ltb 0 most) (walks digit_runner (digit_runner.next (at most 0) b) ds) t in
      let is : T (digit b) = left (digit b) (ltb 0 most) now in
      let some : 0 < most = ltb→lt 0 most (right (digit b) (ltb 0 most) now) in
      let then : T (walks digit_runner (digit_runner.next (at most 0) b) ds) = right (digit b && ltb 0 most) (walks digit_runner (digit_runner.next (at most 0) b) ds) t in
      by-test (eqb b 0x30)
      (λ e. first-zero some (eqb-true b 0x30 e)
      (none_left 0 ds (subst (λ (q : Digits). T (walks digit_runner q ds)) (next-zero most b (eqb-true b 0x30 e)) then)))
      (λ e. let more : 0 < put 0 b = omega (arith, digit-range b is, eqb-false b 0x30 e) in
      let behind = digits-walked (most - 1) (put 0 b) ds more (subst (λ (q : Digits). T (walks digit_runner q ds)) (next-some most 0 b more) then) in
      first_some is (eqb-false b 0x30 e) behind.0 (omega (arith, behind.1)))

-- the runner walks it, and has fewer digits left than at the start
pub record Walks (most : ℕ) (ds : List ℕ) : Type 0 where
  pub walked : T (walks digit_runner (at most 0) ds)
  pub begun : (after digit_runner (at most 0) ds).left < most
  pub value : (after digit_runner (at most 0) ds).value ≡ value_of ds

no_length : (ds : List ℕ) → length ds ≡ 0 → ds ≡ []
no_length [] e = refl
no_length (d ∷ ds) e = absurd (omega (arith, e))

module _ (most b : ℕ) (ds : List ℕ) (is : T (digit b)) (short : suc (length ds) ≤ most) where
  zero-walks : b ≡ 0x30 → ds ≡ [] → Walks most (b ∷ ds)
  unfolding walks after digit_runner spell digit value_of value_from
  zero-walks e n = rw (e, n) (record { walked = both (ltb 0 most) true (lt→ltb 0 most (omega arith)) tt; begun = omega arith; value = refl })

  some-walks : T (every digit ds) → (b ≡ 0x30 → ⊥) → Walks most (b ∷ ds)
  unfolding walks after digit_runner value_of value_from
  some-walks t n =
      let more : 0 < put 0 b = omega (arith, digit-range b is, n) in
      let state : digit_runner.next (at most 0) b ≡ at (most - 1) (put 0 b) = next-some most 0 b more in
      let end : after digit_runner (at most 0) (b ∷ ds) ≡ at (most - 1 - length ds) (value_from (put 0 b) ds) =
      ap (λ (q : Digits). after digit_runner q ds) state ∙ digits-after (most - 1) (put 0 b) ds more in
      record {
        walked =
            both (digit b && ltb 0 most) (walks digit_runner (digit_runner.next (at most 0) b) ds)
            (both (digit b) (ltb 0 most) is (lt→ltb 0 most (omega arith)))
            (subst (λ (q : Digits). T (walks digit_runner q ds)) (sym state) (digits-walk (most - 1) (put 0 b) ds more t (omega arith)));
        begun = subst (λ (q : Digits). q.left < most) (sym end) (omega arith);
        value = ap (λ (q : Digits). q.value) end;
      }

pub token-walks : (most : ℕ) (ds : List ℕ) → Token most ds → Walks most ds
unfolding numeral
token-walks most [] t = absurd t.numbered
token-walks most (b ∷ ds) t =
    let both-digits : T (digit b && every digit ds) = left (digit b && every digit ds) (not (eqb b 0x30) || eqb (length ds) 0) t.numbered in
    let is : T (digit b) = left (digit b) (every digit ds) both-digits in
    by-test (eqb b 0x30)
    (λ e. zero-walks most b ds is t.short (eqb-true b 0x30 e)
    (no_length ds (eqb→eq (length ds) 0
    (subst (λ (x : Bool). T (not x || eqb (length ds) 0)) e (right (digit b && every digit ds) (not (eqb b 0x30) || eqb (length ds) 0) t.numbered)))))
    (λ e. some-walks most b ds is t.short (right (digit b) (every digit ds) both-digits) (eqb-false b 0x30 e))

-- decimals: a state that has so many left and spelled so much
pub decimals-walked : (l v : ℕ) (ds : List ℕ) → T (walks decimal_runner (at l v) ds) → T (every digit ds) × (length ds ≤ l)
unfolding walks every decimal_runner
decimals-walked l v [] t = (tt, omega arith)
decimals-walked l v (b ∷ ds) t =
    let taken : Bool = digit b && ltb 0 l && not (eqb l 1 && eqb (spell (at l v) b) 0) in
    let now : T (digit b && ltb 0 l) =
    left (digit b && ltb 0 l) (not (eqb l 1 && eqb (spell (at l v) b) 0)) (left taken (walks decimal_runner (decimal_runner.next (at l v) b) ds) t) in
    let then = decimals-walked (l - 1) (spell (at l v) b) ds (right taken (walks decimal_runner (decimal_runner.next (at l v) b) ds) t) in (
      both (digit b) (every digit ds) (left (digit b) (ltb 0 l) now) then.0,
      omega (arith, then.1, ltb→lt 0 l (right (digit b) (ltb 0 l) now)),
    )

pub decimals-walk : (l v : ℕ) (ds : List ℕ) → T (every digit ds) → length ds ≤ l → 0 < value_from v ds → T (walks decimal_runner (at l v) ds)
unfolding walks every decimal_runner value_from spell
decimals-walk l v [] t n h = tt
decimals-walk l v (b ∷ ds) t n h =
    both (digit b && ltb 0 l && not (eqb l 1 && eqb (put v b) 0)) (walks decimal_runner (at (l - 1) (put v b)) ds)
    (both (digit b && ltb 0 l) (not (eqb l 1 && eqb (put v b) 0))
    (both (digit b) (ltb 0 l) (left (digit b) (every digit ds) t) (lt→ltb 0 l (omega arith)))
    (not_T (eqb l 1 && eqb (put v b) 0)
    (λ z. last ds (eqb→eq l 1 (left (eqb l 1) (eqb (put v b) 0) z)) (eqb→eq (put v b) 0 (right (eqb l 1) (eqb (put v b) 0) z)) n h)))
    (decimals-walk (l - 1) (put v b) ds (right (digit b) (every digit ds) t) (omega arith) h)
  where
    last : (es : List ℕ) → l ≡ 1 → put v b ≡ 0 → suc (length es) ≤ l → 0 < value_from (put v b) es → ⊥
    last [] e z m g = omega (arith, g, z)
    last (x ∷ es) e z m g = omega (arith, e, m)

pub decimals-after : (l v : ℕ) (ds : List ℕ) → after decimal_runner (at l v) ds ≡ at (l - length ds) (value_from v ds)
unfolding after value_from decimal_runner spell
decimals-after l v [] = ap (λ (x : ℕ). at x v) (omega arith)
decimals-after l v (b ∷ ds) = decimals-after (l - 1) (put v b) ds ∙ ap (λ (x : ℕ). at x (value_from (put v b) ds)) (omega arith)

-- the value of digits
pub value-append : (v : ℕ) (a b : List ℕ) → value_from v (a ++ b) ≡ value_from (value_from v a) b
unfolding value_from
value-append v [] b = refl
value-append v (x ∷ a) b = value-append (put v x) a b

pub value_grows : (v : ℕ) (ds : List ℕ) → v ≤ value_from v ds
unfolding value_from
value_grows v [] = omega arith
value_grows v (b ∷ ds) = omega (arith, value_grows (put v b) ds)

-- so many digits behind a number below another spell less than that many tens of it
pub value-below : (v n : ℕ) (ds : List ℕ) → T (every digit ds) → v < n → value_from v ds < n * 10 ^ length ds
unfolding value_from every
value-below v n [] t h = omega (arith, h)
value-below v n (b ∷ ds) t h =
    let r = digit-range b (left (digit b) (every digit ds) t) in
    rw (pow-suc 10 (length ds)) (subst (λ (x : ℕ). value_from (put v b) ds < x) (mul_assoc n 10 (10 ^ length ds) ∙ ap (λ (x : ℕ). n * x) (mul_comm 10 (10 ^ length ds)))
    (value-below (put v b) (n * 10) ds (right (digit b) (every digit ds) t) (omega (arith, r, h))))

-- three digits spell less than 1000
pub value-small : (ds : List ℕ) → T (every digit ds) → length ds ≤ 3 → value_of ds ≤ 999
unfolding value_of
value-small [] t n = omega (arith, value-below 0 1 [] t (omega arith))
value-small (a ∷ []) t n = omega (arith, value-below 0 1 (a ∷ []) t (omega arith))
value-small (a ∷ b ∷ []) t n = omega (arith, value-below 0 1 (a ∷ b ∷ []) t (omega arith))
value-small (a ∷ b ∷ c ∷ []) t n = omega (arith, value-below 0 1 (a ∷ b ∷ c ∷ []) t (omega arith))
value-small (a ∷ b ∷ c ∷ d ∷ ds) t n = absurd (omega (arith, n))

-- and four of a number 1000 at least
pub value-large : (ds : List ℕ) → T (numeral ds) → 4 ≤ length ds → 1000 ≤ value_of ds
unfolding value_of value_from numeral every
value-large [] t n = absurd t
value-large (a ∷ []) t n = absurd (omega (arith, n))
value-large (a ∷ b ∷ []) t n = absurd (omega (arith, n))
value-large (a ∷ b ∷ c ∷ []) t n = absurd (omega (arith, n))
value-large (a ∷ b ∷ c ∷ d ∷ ds) t n =
    let ending : Bool = not (eqb a 0x30) || eqb (length (b ∷ c ∷ d ∷ ds)) 0 in
    let digits : T (digit a && every digit (b ∷ c ∷ d ∷ ds)) = left (digit a && every digit (b ∷ c ∷ d ∷ ds)) ending t in
    by-test (eqb a 0x30)
    (λ e. absurd (omega (
      arith,
      eqb→eq (length (b ∷ c ∷ d ∷ ds)) 0
          (subst (λ (x : Bool). T (not x || eqb (length (b ∷ c ∷ d ∷ ds)) 0)) e (right (digit a && every digit (b ∷ c ∷ d ∷ ds)) ending t)),
    )))
    (λ e. omega (
      arith,
      value_grows (put (put (put (put 0 a) b) c) d) ds,
      digit-range a (left (digit a) (every digit (b ∷ c ∷ d ∷ ds)) digits),
      eqb-false a 0x30 e,
    ))

pub numeral-digits : (ds : List ℕ) → T (numeral ds) → T (every digit ds)
unfolding numeral every
numeral-digits [] t = absurd t
numeral-digits (b ∷ ds) t = left (digit b && every digit ds) (not (eqb b 0x30) || eqb (length ds) 0) t

-- a run that has begun is a number
pub token-of : (most : ℕ) (ds : List ℕ) → T (walks digit_runner (at most 0) ds) → T (ltb (after digit_runner (at most 0) ds).left most) → Token most ds
unfolding after
token-of most [] t n = absurd (let z : most < most = ltb→lt most most n in omega arith)
token-of most (b ∷ ds) t n = token-walked most b ds t
