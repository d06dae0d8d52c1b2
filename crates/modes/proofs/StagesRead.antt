-- The stages of a line, by what the code's tests found. Assumes nothing.
use Prim.Native.Nat.{ℕ, zero, suc, ◌+◌, ◌-◌, ◌*◌, ◌^◌, ◌≤◌, ◌<◌}
use mathlib.Core.Bool.{Bool, true, false, cond, ◌&&◌}
use mathlib.Core.List.{List, [], ◌∷◌, ◌++◌}
use mathlib.Core.Path.{◌≡◌, refl, sym, ap, ◌∙◌, subst}
use native.Mathlib.Numerals.{add-one}
use native.Mathlib.Omega.{arith}
use borrow.Author.Tests.{lt-ltb, le-ltb, eq-eqb, ne_eqb}
use lib.Dec.{eqb, ltb}
use lib.ListN.{length, drop, take, set, length-set}
use lib.Seq.{take_all, take-suc-set}
use Rattle.bits.proofs.Test.{by-test, and-false}
use Rattle.std.specs.List.{prefix_len}
use Rattle.modes.specs.declared.number.Number.{Number}
use Rattle.modes.specs.declared.number.Spelled.{Spelled}
use Rattle.modes.specs.Form.{name_byte, header, Good}
use Rattle.modes.specs.Promises.{Told}
use Rattle.modes.specs.Scan.{Outcome, Ok, Err, Passes, Stops, read_word, lit, pick, Digits, passing, shift, is_at, matched_in, run_count, run_end, state, number_from, name_runner, digit_runner, decimal_runner, read_token, unflagged, read_flags, read_numbers, read_decimals, read_behind, read_clock, read_name, read_line}
use Rattle.modes.proofs.Steps.{shift_zero, lit-there, lit-not, pick_first, pick_second, pick_other, word-whole, word-part, matched-most, run_at}
use Rattle.modes.proofs.Readers.{RightAt}
use Rattle.modes.proofs.Lines.{reads-good}
use Rattle.modes.proofs.Loops.{tail, tail-is}

shift_none : (n : ℕ) → shift n (Err 0) ≡ Err n
unfolding shift
shift_none n = ap Err (omega arith)

next : (at : ℕ) → at + 1 + 1 ≡ at + 2
next at = omega arith

-- one of two things, by its byte
module _ {A : Type 0} (line : List ℕ) (at c d : ℕ) (apart : d ≡ c → ⊥) (x y : A) where
  abbrev pub one_of : (A → List ℕ → Outcome) → List ℕ → Outcome
  one_of k = pick c d (k x) (k y)

  pub picks-first : at < length line → is_at line at c ≡ true → Passes one_of line at x (at + 1)
  picks-first h e = record { within = omega arith; same = λ k. pick_first line at c d (k x) (k y) e }

  pub picks-second : at < length line → is_at line at d ≡ true → Passes one_of line at y (at + 1)
  picks-second h e = record { within = omega arith; same = λ k. pick_second line at c d (k x) (k y) apart e }

  pub picks-none : is_at line at c ≡ false → is_at line at d ≡ false → Stops one_of line at at
  picks-none e f = λ k. pick_other line at c d (k x) (k y) e ∙ lit-not line at d [] (k y) f

-- a word, by how many bytes of it match
module _ (line : List ℕ) (at : ℕ) (w : List ℕ) (k : List ℕ → Outcome) (count : ℕ) (e : count ≡ matched_in w (drop at line)) where
  pub word-short : count < length w → shift at (lit w k (drop at line)) ≡ Err (at + count)
  word-short h =
      word-part line at w k (subst (λ (n : ℕ). n < length w) e h) ∙ ap (λ (n : ℕ). Err (at + n)) (sym e)

  pub word-full : length w ≤ count → shift at (lit w k (drop at line)) ≡ shift (at + length w) (k (drop (at + length w) line))
  word-full h = word-whole line at w k (omega (arith, e, matched-most w (drop at line)))

-- the name
end-count : (c : ℕ) (s : List ℕ) → run_end name_runner c s ≡ c + run_count name_runner c s
unfolding run_end run_count name_runner
end-count c [] = omega arith
end-count c (b ∷ s) =
    by-test (name_runner.taken c b) (λ e. rw e (end-count (suc c) s ∙ omega arith)) (λ e. rw e (omega arith))

-- how many bytes a name has, counted in the first 32 bytes
name-counted : (c n : ℕ) (s : List ℕ) → c + n ≡ 32 → prefix_len name_byte (take n s) ≡ run_count name_runner c s
unfolding run_count name_runner
name-counted c zero [] e = refl
name-counted c (suc n) [] e = refl
name-counted c zero (b ∷ s) e =
    sym (ap (λ (t : Bool). cond (name_byte b && t) (suc (run_count name_runner (suc c) s)) 0) (le-ltb c 32 (omega (arith, e)))
    ∙ ap (λ (t : Bool). cond t (suc (run_count name_runner (suc c) s)) 0) (and-false (name_byte b)))
name-counted c (suc n) (b ∷ s) e =
    by-test (name_byte b)
    (λ t. rw (t, lt-ltb c 32 (omega (arith, e))) (ap (λ (k : ℕ). 1 + k) (name-counted (suc c) n s (omega (arith, e))) ∙ omega arith))
    (λ t. rw t refl)

module _ (line : List ℕ) (at count : ℕ) (e : count ≡ prefix_len name_byte (take 32 (tail line at 0 at (omega arith)))) where
  abbrev quoted : ℕ → List ℕ → Outcome
  quoted name = lit (0x22 ∷ 0x20 ∷ []) (read_clock name)

  counted : count ≡ run_count name_runner 0 (drop at line)
  counted = e ∙ ap (λ (s : List ℕ). prefix_len name_byte (take 32 s)) (tail-is line at 0 at (omega arith)) ∙ name-counted 0 32 (drop at line) refl

  name-read : shift at (read_name (drop at line)) ≡ shift (at + count) (passing (ltb 0) quoted count (drop (at + count) line))
  unfolding read_name
  name-read =
      run_at name_runner (passing (ltb 0) quoted) 0 line at
      ∙ ap (λ (n : ℕ). shift (at + n) (passing (ltb 0) quoted (run_end name_runner 0 (drop at line)) (drop (at + n) line))) (sym counted)
      ∙ ap (λ (n : ℕ). shift (at + count) (passing (ltb 0) quoted n (drop (at + count) line)))
      (end-count 0 (drop at line) ∙ ap (λ (n : ℕ). 0 + n) (sym counted) ∙ omega arith)

  pub name-none : count ≡ 0 → shift at (read_name (drop at line)) ≡ Err at
  unfolding passing
  name-none z =
      name-read
      ∙ ap (λ (b : Bool). shift (at + count) (cond b (quoted count (drop (at + count) line)) (Err 0))) (le-ltb 0 count (omega (arith, z)))
      ∙ shift_none (at + count) ∙ ap Err (omega (arith, z))

  pub name-some : 0 < count → shift at (read_name (drop at line)) ≡ shift (at + count) (quoted count (drop (at + count) line))
  unfolding passing
  name-some h =
      name-read ∙ ap (λ (b : Bool). shift (at + count) (cond b (quoted count (drop (at + count) line)) (Err 0))) (lt-ltb 0 count h)

-- a number
module _ (line : List ℕ) (at most : ℕ) (k : ℕ → List ℕ → Outcome) (n : Spelled) (e : n ≡ number_from digit_runner line at (state most 0)) where
  token-read : shift at (read_token most k (drop at line))
      ≡ shift n.end (passing (λ q. ltb q.left most) (λ q. k q.value) (state n.left n.value) (drop n.end line))
  unfolding read_token number_from
  token-read =
      run_at digit_runner (passing (λ q. ltb q.left most) (λ q. k q.value)) (state most 0) line at
      ∙ ap (λ (x : Spelled). shift x.end (passing (λ q. ltb q.left most) (λ q. k q.value) (state x.left x.value) (drop x.end line))) (sym e)

  pub token-none : most ≤ n.left → shift at (read_token most k (drop at line)) ≡ Err n.end
  unfolding passing
  token-none h =
      token-read
      ∙ ap (λ (b : Bool). shift n.end (cond b (k n.value (drop n.end line)) (Err 0))) (le-ltb n.left most h)
      ∙ shift_none n.end

  pub token-some : n.left < most → shift at (read_token most k (drop at line)) ≡ shift n.end (k n.value (drop n.end line))
  unfolding passing
  token-some h =
      token-read ∙ ap (λ (b : Bool). shift n.end (cond b (k n.value (drop n.end line)) (Err 0))) (lt-ltb n.left most h)

-- behind the whole MHz
module _ (line : List ℕ) (at name whole : ℕ) where
  first : List ℕ → Outcome
  first = read_token 5 (λ n. read_numbers 7 name (whole * 1000) (n ∷ []))

  pub behind-point : is_at line at 0x2E ≡ true
      → shift at (read_behind name whole (drop at line)) ≡ shift (at + 1) (read_decimals name whole (drop (at + 1) line))
  unfolding read_behind lit
  behind-point e =
      by-test (eqb whole 0)
      (λ z. rw z (lit-there line at 0x2E [] (read_decimals name whole) e))
      (λ z. rw z (pick_first line at 0x2E 0x20 (read_decimals name whole) (read_token 5 (λ n. read_numbers 7 name (whole * 1000) (n ∷ []))) e))

  pub behind-zero : is_at line at 0x2E ≡ false → whole ≡ 0 → shift at (read_behind name whole (drop at line)) ≡ Err at
  unfolding read_behind
  behind-zero e z = rw (eq-eqb whole 0 z) (lit-not line at 0x2E [] (read_decimals name whole) e)

  pub behind-space : is_at line at 0x2E ≡ false → (whole ≡ 0 → ⊥)
      → shift at (read_behind name whole (drop at line)) ≡ shift at (read_numbers 8 name (whole * 1000) [] (drop at line))
  unfolding read_behind read_numbers
  behind-space e z =
      rw (ne_eqb whole 0 z) (pick_other line at 0x2E 0x20 (read_decimals name whole) (read_token 5 (λ n. read_numbers 7 name (whole * 1000) (n ∷ []))) e)

-- behind the point
module _ (line : List ℕ) (at name whole : ℕ) (n : Spelled) (e : n ≡ number_from decimal_runner line at (state 3 whole)) where
  abbrev passed : Digits → Bool
  passed q = ltb q.left 3 && ltb 0 q.value

  abbrev following : Digits → List ℕ → Outcome
  following q = read_numbers 8 name (q.value * 10 ^ q.left) []

  decimals-read : shift at (read_decimals name whole (drop at line))
      ≡ shift n.end (passing passed following (state n.left n.value) (drop n.end line))
  unfolding read_decimals number_from
  decimals-read =
      run_at decimal_runner (passing passed following) (state 3 whole) line at
      ∙ ap (λ (x : Spelled). shift x.end (passing passed following (state x.left x.value) (drop x.end line))) (sym e)

  pub decimals-bad : passed (state n.left n.value) ≡ false → shift at (read_decimals name whole (drop at line)) ≡ Err n.end
  unfolding passing
  decimals-bad h =
      decimals-read
      ∙ ap (λ (b : Bool). shift n.end (cond b (following (state n.left n.value) (drop n.end line)) (Err 0))) h
      ∙ shift_none n.end

  pub decimals-done : n.left < 3 → 0 < n.value
      → shift at (read_decimals name whole (drop at line)) ≡ shift n.end (read_numbers 8 name (n.value * 10 ^ n.left) [] (drop n.end line))
  unfolding passing
  decimals-done h g =
      decimals-read
      ∙ ap (λ (b : Bool). shift n.end (cond (b && ltb 0 n.value) (following (state n.left n.value) (drop n.end line)) (Err 0))) (lt-ltb n.left 3 h)
      ∙ ap (λ (b : Bool). shift n.end (cond b (following (state n.left n.value) (drop n.end line)) (Err 0))) (lt-ltb 0 n.value g)

-- so many numbers were read
pub record Numbering (line : List ℕ) (at name khz : ℕ) (numbers : List ℕ) (end count : ℕ) : Type 0 where
  pub fits : end ≤ length line
  pub some : count ≤ 8
  pub size : length numbers ≡ 8
  pub same : shift at (read_numbers 8 name khz [] (drop at line)) ≡ shift end (read_numbers (8 - count) name khz (take count numbers) (drop end line))

module _ (line : List ℕ) (at name khz : ℕ) (numbers : List ℕ) (end count : ℕ) (m : Numbering line at name khz numbers end count) where
  one_more : count < 8 → 8 - count ≡ suc (8 - (count + 1))
  one_more h = omega arith

  numbers_more : count < 8 → shift at (read_numbers 8 name khz [] (drop at line))
      ≡ shift end (lit (0x20 ∷ []) (read_token 5 (λ n. read_numbers (8 - (count + 1)) name khz (take count numbers ++ n ∷ []))) (drop end line))
  unfolding read_numbers
  numbers_more h = m.same ∙ ap (λ (k : ℕ). shift end (read_numbers k name khz (take count numbers) (drop end line))) (one_more h)

  abbrev another : ℕ → List ℕ → Outcome
  another n = read_numbers (8 - (count + 1)) name khz (take count numbers ++ n ∷ [])

  pub numbers-none : (place : ℕ) → count < 8 → Stops (read_word (0x20 ∷ [])) line end place → shift at (read_numbers 8 name khz [] (drop at line)) ≡ Err place
  numbers-none place h s = numbers_more h ∙ s (λ u. read_token 5 another)

  module _ (h : count < 8) (digits : ℕ) (p : Passes (read_word (0x20 ∷ [])) line end tt digits) where
    number_at : shift at (read_numbers 8 name khz [] (drop at line)) ≡ shift digits (read_token 5 another (drop digits line))
    number_at = numbers_more h ∙ p.same (λ u. read_token 5 another)

    pub numbers-bad : (place : ℕ) → Stops (read_token 5) line digits place → shift at (read_numbers 8 name khz [] (drop at line)) ≡ Err place
    numbers-bad place s = number_at ∙ s another

    pub numbers-next : (n : Number) → Passes (read_token 5) line digits n.value n.end
        → Numbering line at name khz (set numbers count n.value) n.end (count + 1)
    numbers-next n r =
        record {
          fits = r.within;
          some = omega arith;
          size = simp length-set m.size;
          same =
              number_at ∙ r.same another
              ∙ ap (λ (ns : List ℕ). shift n.end (read_numbers (8 - (count + 1)) name khz ns (drop n.end line)))
              (sym (ap (λ (k : ℕ). take k (set numbers count n.value)) (add-one count) ∙ take-suc-set numbers count n.value (omega (arith, m.size))));
        }

  pub numbers-done : 8 ≤ count → shift at (read_numbers 8 name khz [] (drop at line)) ≡ shift end (read_flags (unflagged name khz numbers) (drop end line))
  unfolding read_numbers
  numbers-done h =
      m.same
      ∙ ap (λ (k : ℕ). shift end (read_numbers (8 - k) name khz (take k numbers) (drop end line))) (let z : count ≡ 8 = omega (arith, m.some) in z)
      ∙ ap (λ (ns : List ℕ). shift end (read_flags (unflagged name khz ns) (drop end line))) (take_all 8 numbers (omega (arith, m.size)))

pub numbering : (line : List ℕ) (at name khz : ℕ) (numbers : List ℕ) → at ≤ length line → length numbers ≡ 8 → Numbering line at name khz numbers at 0
numbering line at name khz numbers h e = record { fits = h; some = omega arith; size = e; same = refl }

-- the whole line
pub line-whole : (line : List ℕ) → read_line line ≡ shift 0 (lit header read_name (drop 0 line))
unfolding read_line
line-whole line = sym (shift_zero (lit header read_name line))

-- what the reader answers is what is told
pub tells : (line : List ℕ) → Told line (read_line line)
tells line = by_result (read_line line) (reads-good line)
  where
    by_result : (r : Outcome) → RightAt r Good line → Told line r
    by_result (Ok m) h = h
    by_result (Err k) h = h

-- a clock has six digits at most
pub khz-below : (v l : ℕ) → l < 3 → v < 1000 * 10 ^ (3 - l) → v * 10 ^ l < 1000000
khz-below v zero h b = omega (arith, b)
khz-below v (suc zero) h b = omega (arith, b)
khz-below v (suc (suc zero)) h b = omega (arith, b)
khz-below v (suc (suc (suc l))) h b = absurd (omega (arith, h))
