-- The codes of the line one after the other, their sum, and what the line is in the examples of its definition. Assumes nothing.
use Prim.Native.Nat.{ℕ, zero, suc, ◌+◌, ◌≤◌, ◌<◌, min}
use mathlib.Core.Bool.{Bool, true, ◌&&◌}
use mathlib.Core.List.{List, [], ◌∷◌, ◌++◌}
use mathlib.Core.Path.{◌≡◌, refl, ap}
use native.Mathlib.Numerals.{add-one}
use native.Mathlib.Omega.{arith}
use borrow.Author.Tests.{eqb-true}
use lib.Dec.{eqb}
use lib.ListN.{length, get_or, take, drop, length-append, length-drop, drop_of_length-le}
use lib.Seq.{drop-cons, take_all}
use Rattle.bits.proofs.Test.{by-test}
use Rattle.file.specs.Readers.{ascii}
use Rattle.text.specs.Text.{decimal, decimal_places, newline, space}
use Rattle.refusals.specs.Counted.{most_count}
use Rattle.refusals.proofs.Lengths.{line-length}
use Rattle.refusals.specs.Said.{code_told, codes_text, head_text, refused_sum, refused_text, start_text, summed_up, times_text, total}

-- of 23 counts, the 21 from the second on are all those from there on
pub from-two : (counts : List ℕ) → length counts ≡ 23 → take 21 (drop 2 counts) ≡ drop 2 counts
from-two counts e = take_all 21 (drop 2 counts) (omega (arith, e, length-drop 2 counts))

-- of counts that begin with that of code 2, the one at a place
module _ (first : Bool) (counts : List ℕ) (i : ℕ) (h : i < length counts) where
  -- the next code, and the rest
  pub next-code : code_told first (i + 2) (get_or counts i 0) ++ codes_text (first && eqb (get_or counts i 0) 0) (i + 1 + 2) (drop (i + 1) counts)
      ≡ codes_text first (i + 2) (drop i counts)
  unfolding codes_text
  next-code = let next : i + 1 + 2 ≡ suc (i + 2) = omega arith in rw (next, drop-cons counts i 0 h, add-one) refl

  pub next-code-length : length (code_told first (i + 2) (get_or counts i 0))
      + length (codes_text (first && eqb (get_or counts i 0) 0) (i + 1 + 2) (drop (i + 1) counts))
      ≡ length (codes_text first (i + 2) (drop i counts))
  next-code-length = rw (← next-code, length-append) refl

-- the sum so far, and the next count
pub next-sum : (counts : List ℕ) (code sum : ℕ) → code < length counts
    → min (summed_up sum (get_or counts code 0) + total (drop (code + 1) counts)) most_count ≡ min (sum + total (drop code counts)) most_count
unfolding total summed_up
next-sum counts code sum h = rw (drop-cons counts code 0 h, add-one) (omega arith)

-- none is left at the end
pub no-code-left : (first : Bool) (counts : List ℕ) (code i : ℕ) → length counts ≤ i → codes_text first code (drop i counts) ≡ []
unfolding codes_text
no-code-left first counts code i h = rw (drop_of_length-le counts h) refl

pub no-sum-left : (counts : List ℕ) (code : ℕ) → length counts ≤ code → total (drop code counts) ≡ 0
unfolding total
no-sum-left counts code h = rw (drop_of_length-le counts h) refl

-- no code from 2 up has a count
none_of : (counts : List ℕ) → total counts ≡ 0 → (k : ℕ) → get_or counts k 0 ≡ 0
unfolding total
none_of [] e k = refl
none_of (n ∷ counts) e zero = omega (arith, e)
none_of (n ∷ counts) e (suc k) = none_of counts (omega (arith, e)) k

-- nothing is said if and only if no code from 2 up has a count
pub nothing_said : (number : ℕ) (counts : List ℕ) → total (drop 2 counts) ≡ 0 → refused_text number counts ≡ []
unfolding refused_text refused_sum
nothing_said number counts e = rw e refl

no-sum : (counts : List ℕ) → eqb (refused_sum counts) 0 ≡ true → total (drop 2 counts) ≡ 0
unfolding refused_sum
no-sum counts e = omega (arith, eqb-true (refused_sum counts) 0 e)

some-said : (sum number : ℕ) (counts : List ℕ) → length (head_text sum number ++ codes_text true 2 (drop 2 counts) ++ newline) ≡ 0 → ⊥
some-said sum number counts e = omega (arith, e, line-length sum number counts)

pub said-nothing : (number : ℕ) (counts : List ℕ) → refused_text number counts ≡ [] → (k : ℕ) → get_or (drop 2 counts) k 0 ≡ 0
unfolding refused_text
said-nothing number counts e =
    by-test (eqb (refused_sum counts) 0)
    (λ t. none_of (drop 2 counts) (no-sum counts t))
    (λ t. absurd (some-said (refused_sum counts) number counts (ap length (rw t at e))))

-- the line of 332 records, of which 132 answered code 6
pub one_code : refused_text 332 (200 ∷ 0 ∷ 0 ∷ 0 ∷ 0 ∷ 0 ∷ 132 ∷ []) ≡ ascii "sedgecoil: 132 of 332 records refused: code 6 132 times" ++ newline
unfolding refused_text refused_sum total head_text codes_text code_told start_text times_text decimal decimal_places space newline ascii
one_code = refl

-- code 1 is no refusal; a code that came once, and several codes
pub some-codes : refused_text 9 (1 ∷ 2 ∷ 3 ∷ 0 ∷ 0 ∷ 0 ∷ 1 ∷ 2 ∷ [])
    ≡ ascii "sedgecoil: 6 of 9 records refused: code 2 3 times, code 6 1 time, code 7 2 times" ++ newline
unfolding refused_text refused_sum total head_text codes_text code_told start_text times_text decimal decimal_places space newline ascii
some-codes = refl
