-- What the loops over a line keep: a word that matches so far, a run that was walked so far. Assumes nothing.
use Prim.Native.Nat.{ℕ, suc, ◌+◌, ◌-◌, ◌*◌, ◌^◌, ◌≤◌, ◌<◌}
use mathlib.Core.Bool.{Bool, true, false, cond, not, ◌&&◌}
use mathlib.Core.List.{List, ◌∷◌}
use mathlib.Core.Path.{◌≡◌, refl, sym, ap, ◌∙◌, subst}
use native.Mathlib.Nat.{pow-suc, one-le-pow, pow-le-pow_right, mul_assoc, lt_of_lt_of_le, add-zero, add_assoc, mul-pos, mul-le-mul_left}
use native.Mathlib.Numerals.{add-one}
use native.Mathlib.Omega.{arith}
use borrow.Author.Tests.{ltb-true, ltb-false, eqb-true, lt-ltb, le-ltb}
use lib.Dec.{T, eqb, ltb, eqb_refl}
use lib.ListN.{length, get_or, take, drop, drop_of_length-le}
use Rattle.std.proofs.lemmas.List.{get_or-drop, take_all, length-drop}
use lib.Seq.{drop-cons}
use Rattle.bits.proofs.Test.{by-test, is_true, passes}
use Rattle.modes.specs.Form.{digit}
use Rattle.modes.specs.Scan.{Runner, Digits, spell, digit_runner, decimal_runner, is_at, matched_in, run_count, run_end, state, number_from}
use Rattle.modes.proofs.Steps.{and_left, and_right, and_no, more, none, there, not_there, within}
use Rattle.modes.proofs.Forms.{zero_or}
use Rattle.modes.proofs.Tokens.{digit-range}

-- so many bytes of a word match from a place on, and those that are left tell how many do
pub record Matching (line word : List ℕ) (at n : ℕ) : Type 0 where
  pub fits : at + n ≤ length line
  pub part : n ≤ length word
  pub same : matched_in word (drop at line) ≡ n + matched_in (drop n word) (drop (at + n) line)

module _ (line word : List ℕ) (at : ℕ) where
  pub matching : at ≤ length line → Matching line word at 0
  matching h =
      record {
        fits = omega arith;
        part = omega arith;
        same = ap (λ (k : ℕ). matched_in word (drop k line)) (sym (add-zero at)) ∙ omega arith;
      }

  module _ (n : ℕ) (m : Matching line word at n) where
    pub matching-next : n < length word → is_at line (at + n) (get_or word n 0) ≡ true → Matching line word at (n + 1)
    unfolding matched_in
    matching-next h e =
        record {
          fits = omega (arith, within line (at + n) (get_or word n 0) e);
          part = omega arith;
          same =
              m.same
              ∙ ap (λ (w : List ℕ). n + matched_in w (drop (at + n) line)) (drop-cons word n 0 h)
              ∙ ap (λ (s : List ℕ). n + matched_in (get_or word n 0 ∷ drop (suc n) word) s) (there line (at + n) (get_or word n 0) e)
              ∙ ap (λ (b : Bool). n + cond b (suc (matched_in (drop (suc n) word) (drop (at + n + 1) line))) 0) (is_true (eqb (get_or word n 0) (get_or word n 0)) (eqb_refl (get_or word n 0)))
              ∙ ap (λ (i : ℕ). n + suc (matched_in (drop i word) (drop (at + n + 1) line))) (sym (add-one n))
              ∙ ap (λ (i : ℕ). n + suc (matched_in (drop (n + 1) word) (drop i line))) (add_assoc at n 1)
              ∙ omega arith;
        }

    pub matching-off : n < length word → is_at line (at + n) (get_or word n 0) ≡ false → n ≡ matched_in word (drop at line)
    unfolding matched_in
    matching-off h e =
        sym
        (m.same ∙ ap (λ (w : List ℕ). n + matched_in w (drop (at + n) line)) (drop-cons word n 0 h)
        ∙ ap (λ (k : ℕ). n + k)
        (not_there line (at + n) (λ s. matched_in (get_or word n 0 ∷ drop (suc n) word) s ≡ 0) (get_or word n 0) e refl (λ b s d z. rw z))
        ∙ omega arith)

    pub matching-end : length word ≤ n → n ≡ matched_in word (drop at line)
    unfolding matched_in
    matching-end h = sym (m.same ∙ ap (λ (w : List ℕ). n + matched_in w (drop (at + n) line)) (drop_of_length-le word h) ∙ omega arith)

-- a run at a place of a line: the byte there is taken, or it isn't
module _ {Q : Type 0} (r : Runner Q) (line : List ℕ) (i : ℕ) (q : Q) where
  taken-count : ltb i (length line) && r.taken q (get_or line i 0) ≡ true
      → run_count r q (drop i line) ≡ suc (run_count r (r.next q (get_or line i 0)) (drop (i + 1) line))
  unfolding run_count
  taken-count e =
      ap (run_count r q) (more line i (ltb-true i (length line) (and_left (ltb i (length line)) (r.taken q (get_or line i 0)) e)))
      ∙ ap (λ (b : Bool). cond b (suc (run_count r (r.next q (get_or line i 0)) (drop (i + 1) line))) 0) (and_right (ltb i (length line)) (r.taken q (get_or line i 0)) e)

  taken-end : ltb i (length line) && r.taken q (get_or line i 0) ≡ true
      → run_end r q (drop i line) ≡ run_end r (r.next q (get_or line i 0)) (drop (i + 1) line)
  unfolding run_end
  taken-end e =
      ap (run_end r q) (more line i (ltb-true i (length line) (and_left (ltb i (length line)) (r.taken q (get_or line i 0)) e)))
      ∙ ap (λ (b : Bool). cond b (run_end r (r.next q (get_or line i 0)) (drop (i + 1) line)) q) (and_right (ltb i (length line)) (r.taken q (get_or line i 0)) e)

  stop-count : ltb i (length line) && r.taken q (get_or line i 0) ≡ false → run_count r q (drop i line) ≡ 0
  unfolding run_count
  stop-count e =
      by-test (ltb i (length line))
      (λ h. ap (run_count r q) (more line i (ltb-true i (length line) h))
      ∙ ap (λ (b : Bool). cond b (suc (run_count r (r.next q (get_or line i 0)) (drop (i + 1) line))) 0) (and_no (ltb i (length line)) (r.taken q (get_or line i 0)) h e))
      (λ h. ap (run_count r q) (none line i (ltb-false i (length line) h)))

  stop-end : ltb i (length line) && r.taken q (get_or line i 0) ≡ false → run_end r q (drop i line) ≡ q
  unfolding run_end
  stop-end e =
      by-test (ltb i (length line))
      (λ h. ap (run_end r q) (more line i (ltb-true i (length line) h))
      ∙ ap (λ (b : Bool). cond b (run_end r (r.next q (get_or line i 0)) (drop (i + 1) line)) q) (and_no (ltb i (length line)) (r.taken q (get_or line i 0)) h e))
      (λ h. ap (run_end r q) (none line i (ltb-false i (length line) h)))

-- digits
module _ (r : Runner Digits) (line : List ℕ) (i : ℕ) (q : Digits) where
  pub number-next : ltb i (length line) && r.taken q (get_or line i 0) ≡ true → number_from r line i q ≡ number_from r line (i + 1) (r.next q (get_or line i 0))
  unfolding number_from
  number-next e =
      ap (λ (c : ℕ). record { end = i + c; left = (run_end r q (drop i line)).left; value = (run_end r q (drop i line)).value }) (taken-count r line i q e)
      ∙ ap (λ (d : Digits). record { end = i + suc (run_count r (r.next q (get_or line i 0)) (drop (i + 1) line)); left = d.left; value = d.value }) (taken-end r line i q e)
      ∙ ap (λ (c : ℕ). record { end = c; left = (run_end r (r.next q (get_or line i 0)) (drop (i + 1) line)).left; value = (run_end r (r.next q (get_or line i 0)) (drop (i + 1) line)).value }) (omega arith)

  pub number-stop : ltb i (length line) && r.taken q (get_or line i 0) ≡ false → number_from r line i q ≡ record { end = i; left = q.left; value = q.value }
  unfolding number_from
  number-stop e =
      ap (λ (c : ℕ). record { end = i + c; left = (run_end r q (drop i line)).left; value = (run_end r q (drop i line)).value }) (stop-count r line i q e)
      ∙ ap (λ (d : Digits). record { end = i + 0; left = d.left; value = d.value }) (stop-end r line i q e)
      ∙ ap (λ (c : ℕ). record { end = c; left = q.left; value = q.value }) (omega arith)

-- what digits spell stays below a power of ten
pub bound-next : (n k v b : ℕ) → v < n * 10 ^ k → T (digit b) → 10 * v + (b - 0x30) < n * 10 ^ (k + 1)
bound-next n k v b h t =
    subst (λ (x : ℕ). 10 * v + (b - 0x30) < x) (mul_assoc n (10 ^ k) 10 ∙ ap (λ (x : ℕ). n * x) (sym (pow-suc 10 k) ∙ ap (λ (x : ℕ). 10 ^ x) (sym (add-one k))))
    (omega (arith, h, digit-range b t))

pub bound-most : (v k : ℕ) → v < 10 ^ k → k ≤ 6 → v < 1000000
bound-most v k h l = lt_of_lt_of_le h (pow-le-pow_right {n = 10} (omega arith) {i = k} {j = 6} l)

-- a line's bytes from a place on, one by one: the byte at an index
module _ (line : List ℕ) (at i end : ℕ) (e : end ≡ at + i) where
  abbrev pub tail : List ℕ
  tail = take (length line - at) (drop at line)

  pub tail-is : tail ≡ drop at line
  tail-is = take_all (length line - at) (drop at line) (omega (arith, length-drop at line))

  pub byte-is : get_or tail i 0 ≡ get_or line end 0
  byte-is = ap (λ (s : List ℕ). get_or s i 0) tail-is ∙ get_or-drop at line i 0 ∙ ap (λ (k : ℕ). get_or line k 0) (sym e)

  pub byte-within : i < length tail → end < length line
  byte-within h =
      let z : i < length (drop at line) = subst (λ (s : List ℕ). i < length s) tail-is h in omega (arith, z, e, length-drop at line)

  pub byte-beyond : length tail ≤ i → length line ≤ end
  byte-beyond h =
      let z : length (drop at line) ≤ i = subst (λ (s : List ℕ). length s ≤ i) tail-is h in omega (arith, z, e, length-drop at line)

-- a test of the byte at a place, which stands there, and where none does
pub tested : (test : ℕ → Bool) (line : List ℕ) (end byte : ℕ) (r : Bool) → end < length line → byte ≡ get_or line end 0 → r ≡ test byte
    → ltb end (length line) && test (get_or line end 0) ≡ r
tested test line end byte r h e t =
    ap (λ (b : Bool). b && test (get_or line end 0)) (lt-ltb end (length line) h) ∙ ap test (sym e) ∙ sym t

pub untested : (test : ℕ → Bool) (line : List ℕ) (end : ℕ) → length line ≤ end → ltb end (length line) && test (get_or line end 0) ≡ false
untested test line end h = ap (λ (b : Bool). b && test (get_or line end 0)) (le-ltb end (length line) h)

-- digits were spelled up to a place, and those that are left tell the number
pub record Spelling (r : Runner Digits) (line : List ℕ) (at most start scale : ℕ) (end left value : ℕ) : Type 0 where
  pub fits : end ≤ length line
  pub few : left ≤ most
  pub below : value < scale * 10 ^ (most - left)
  pub same : number_from r line at (state most start) ≡ number_from r line end (state left value)

pub spelling : (r : Runner Digits) (line : List ℕ) (at most start scale : ℕ) → at ≤ length line → start < scale → Spelling r line at most start scale at most start
spelling r line at most start scale h s =
    record {
      fits = h;
      few = omega arith;
      below = subst (λ (k : ℕ). start < scale * 10 ^ k) (let z : 0 ≡ most - most = omega arith in z) (omega arith);
      same = refl;
    }

and-both-of : (a b c : Bool) → a && (b && c) ≡ true → a && b ≡ true
and-both-of true true c e = refl
and-both-of true false c e = e
and-both-of false b c e = e

module _ (line : List ℕ) (at most start scale end left value : ℕ) where
  -- one digit more
  pub digit-there : ltb end (length line) && (digit (get_or line end 0) && ltb 0 left) ≡ true → (end < length line) × T (digit (get_or line end 0)) × (0 < left)
  digit-there e =
      let b : digit (get_or line end 0) && ltb 0 left ≡ true = and_right (ltb end (length line)) (digit (get_or line end 0) && ltb 0 left) e in (
        ltb-true end (length line) (and_left (ltb end (length line)) (digit (get_or line end 0) && ltb 0 left) e),
        passes (digit (get_or line end 0)) (and_left (digit (get_or line end 0)) (ltb 0 left) b),
        ltb-true 0 left (and_right (digit (get_or line end 0)) (ltb 0 left) b),
      )

  grown : left ≤ most → value < scale * 10 ^ (most - left) → T (digit (get_or line end 0)) → 0 < left
      → 10 * value + (get_or line end 0 - 0x30) < scale * 10 ^ (most - (left - 1))
  grown f b t h =
      subst (λ (k : ℕ). 10 * value + (get_or line end 0 - 0x30) < scale * 10 ^ k) (let z : most - left + 1 ≡ most - (left - 1) = omega arith in z)
      (bound-next scale (most - left) value (get_or line end 0) b t)

  pub digits-next : 0 < scale → Spelling digit_runner line at most start scale end left value
      → ltb end (length line) && (digit (get_or line end 0) && ltb 0 left) ≡ true
      → (v l : ℕ) → v ≡ 10 * value + (get_or line end 0 - 0x30) → l ≡ cond (eqb v 0) 0 (left - 1)
      → Spelling digit_runner line at most start scale (end + 1) l v
  unfolding digit_runner spell
  digits-next z s e v l ev el =
      let d = digit-there e in
      record {
        fits = omega (arith, d.0);
        few = rw el (let z : cond (eqb v 0) 0 (left - 1) < suc most = zero_or (eqb v 0) (left - 1) (suc most) (omega arith) (omega (arith, s.few)) in omega arith);
        below =
            rw el
            (by-test (eqb v 0)
            (λ t. rw t (subst (λ (x : ℕ). x < scale * 10 ^ (most - 0)) (sym (eqb-true v 0 t)) (mul-pos z (one-le-pow (most - 0) 10 (omega arith)))))
            (λ t. rw (t, ev) (grown s.few s.below d.1 d.2)));
        same =
            s.same ∙ number-next digit_runner line end (state left value) e
            ∙ ap (λ (q : Digits). number_from digit_runner line (end + 1) q)
            (ap (λ (x : ℕ). state (cond (eqb x 0) 0 (left - 1)) x) (sym ev) ∙ ap (λ (x : ℕ). state x v) (sym el));
      }

  pub digits-stop : Spelling digit_runner line at most start scale end left value
      → ltb end (length line) && (digit (get_or line end 0) && ltb 0 left) ≡ false
      → record { end = end; left = left; value = value } ≡ number_from digit_runner line at (state most start)
  unfolding digit_runner
  digits-stop s e = sym (s.same ∙ number-stop digit_runner line end (state left value) e)

  -- a decimal more
  abbrev decimal : Bool
  decimal =
      ltb end (length line) && ((digit (get_or line end 0) && ltb 0 left) && not (eqb left 1 && eqb (10 * value + (get_or line end 0 - 0x30)) 0))

  pub decimal-there : decimal ≡ true → (end < length line) × T (digit (get_or line end 0)) × (0 < left)
  decimal-there e =
      digit-there
      (and-both-of (ltb end (length line)) (digit (get_or line end 0) && ltb 0 left) (not (eqb left 1 && eqb (10 * value + (get_or line end 0 - 0x30)) 0)) e)

  pub decimals-next : Spelling decimal_runner line at most start scale end left value → decimal ≡ true
      → (v : ℕ) → v ≡ 10 * value + (get_or line end 0 - 0x30) → Spelling decimal_runner line at most start scale (end + 1) (left - 1) v
  unfolding decimal_runner spell
  decimals-next s e v ev =
      let d = decimal-there e in
      record {
        fits = omega (arith, d.0);
        few = omega (arith, s.few);
        below = rw ev (grown s.few s.below d.1 d.2);
        same =
            s.same ∙ number-next decimal_runner line end (state left value) e
            ∙ ap (λ (x : ℕ). number_from decimal_runner line (end + 1) (state (left - 1) x)) (sym ev);
      }

  pub decimals-stop : Spelling decimal_runner line at most start scale end left value → decimal ≡ false
      → record { end = end; left = left; value = value } ≡ number_from decimal_runner line at (state most start)
  unfolding decimal_runner spell
  decimals-stop s e = sym (s.same ∙ number-stop decimal_runner line end (state left value) e)
