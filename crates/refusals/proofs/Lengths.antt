-- How long the parts of the line are, and that it has at most 830 bytes. Assumes nothing.
use Prim.Native.Nat.{ℕ, suc, ◌+◌, ◌*◌, ◌^◌, ◌≤◌, ◌<◌}
use mathlib.Core.Bool.{Bool, true, false, cond, ◌&&◌}
use mathlib.Core.List.{List, [], ◌∷◌, ◌++◌}
use mathlib.Core.Path.{◌≡◌, refl, sym, ap, ◌∙◌}
use native.Mathlib.Nat.{zero-add}
use native.Mathlib.Omega.{arith}
use borrow.Author.Tests.{ne_eqb}
use lib.Dec.{eqb, lit<}
use lib.ListN.{length, get_or, take, drop, length-append, length-drop}
use lib.Seq.{get_or-drop, sets-eq, take_at}
use Rattle.bits.proofs.Test.{by-test}
use Rattle.file.specs.Readers.{ascii}
use Rattle.text.specs.Lent.{Wrote}
use Rattle.text.specs.Text.{decimal, newline, space}
use Rattle.text.proofs.Places.{most-places}
use Rattle.text.proofs.Spelled.{digits-length}
use Rattle.refusals.specs.Said.{code_told, codes_text, head_text, refused_most, refused_sum, refused_text, start_text, times_text}

-- a number below 10^j has at most j digits
decimal-most : (j n : ℕ) → n < 10 ^ suc j → length (decimal n) ≤ suc j
unfolding decimal
decimal-most j n h = rw digits-length (most-places j n n h)

-- a number of 64 bits has at most 20
wide-most : (n : ℕ) → n < 2 ^ 64 → length (decimal n) ≤ 20
wide-most n h = decimal-most 19 n (omega (arith, h, lit< {m = 18446744073709551615} {n = 10 ^ 20} tt))

pub head-length : (sum number : ℕ) → length (head_text sum number) ≡ 31 + length (decimal sum) + length (decimal number)
unfolding head_text ascii
head-length sum number = simp length-append (omega arith)

pub start-length : (first : Bool) (code : ℕ) → length (start_text first code) ≡ 7 + length (decimal code)
unfolding start_text ascii
start-length true code = simp length-append (omega arith)
start-length false code = simp length-append (omega arith)

pub times-length : (times : ℕ) → length (times_text times) ≡ 1 + length (decimal times) + length (cond (eqb times 1) (ascii " time") (ascii " times"))
unfolding times_text space
times-length times = simp length-append (omega arith)

word-most : (times : ℕ) → length (cond (eqb times 1) (ascii " time") (ascii " times")) ≤ 6
unfolding ascii
word-most times = by-test (eqb times 1) (λ e. rw e (omega arith)) (λ e. rw e (omega arith))

-- a code below 100 and a count of 64 bits
code-most : (first : Bool) (code times : ℕ) → code < 100 → times < 2 ^ 64 → length (code_told first code times) ≤ 36
unfolding code_told
code-most first code times low small =
    by-test (eqb times 0) (λ e. rw e (omega arith))
    (λ e. rw (e, length-append)
    (omega (arith, start-length first code, times-length times, word-most times, decimal-most 1 code (omega (arith, low)), wide-most times small)))

codes-most : (first : Bool) (code : ℕ) (counts : List ℕ) → code + length counts ≤ 100 → ((k : ℕ) → get_or counts k 0 < 2 ^ 64)
    → length (codes_text first code counts) ≤ 36 * length counts
unfolding codes_text
codes-most first code [] low small = omega arith
codes-most first code (times ∷ counts) low small =
    let one = code-most first code times (omega (arith, low)) (small 0) in
    let rest = codes-most (first && eqb times 0) (suc code) counts (omega (arith, low)) (λ k. small (suc k)) in
    rw length-append (omega (arith, one, rest))

sum-most : (counts : List ℕ) → refused_sum counts < 2 ^ 64
unfolding refused_sum
sum-most counts = omega arith

pub line-length : (sum number : ℕ) (counts : List ℕ)
    → length (head_text sum number ++ codes_text true 2 (drop 2 counts) ++ newline)
    ≡ length (head_text sum number) + length (codes_text true 2 (drop 2 counts)) + 1
unfolding newline
line-length sum number counts = simp length-append (omega arith)

-- what is said where some were refused
module _ (number sum : ℕ) (counts : List ℕ) (e : sum ≡ refused_sum counts) (some : sum ≡ 0 → ⊥) where
  pub said-text : refused_text number counts ≡ head_text sum number ++ codes_text true 2 (drop 2 counts) ++ newline
  unfolding refused_text
  said-text = rw (ne_eqb (refused_sum counts) 0 (λ q. some (e ∙ q)), e) refl

  pub said-length : length (refused_text number counts) ≡ length (head_text sum number) + length (codes_text true 2 (drop 2 counts)) + 1
  said-length = ap length said-text ∙ line-length sum number counts

pub refused-most : (number : ℕ) (counts : List ℕ) → number < 2 ^ 64 → length counts ≤ 23 → ((k : ℕ) → get_or counts k 0 < 2 ^ 64)
    → length (refused_text number counts) ≤ refused_most
unfolding refused_text refused_most
refused-most number counts low long small =
    let sum = refused_sum counts in
    let few = length-drop 2 counts in
    let codes = codes-most true 2 (drop 2 counts) (omega (arith, few, long)) (λ k. rw get_or-drop (small (2 + k))) in
    let wide = wide-most sum (sum-most counts) in
    by-test (eqb sum 0) (λ e. rw e (omega arith))
    (λ e. rw e (omega (arith, line-length sum number counts, head-length sum number, few, long, codes, wide-most number low, wide)))

-- a text that was stored from the start on is what stands there
pub stored-text : {before text after : List ℕ} {end : ℕ} → Wrote before 0 text after end → length text ≤ length before
    → (take end after ≡ text) × ((end ≤ length after) × (end ≡ length text))
stored-text {before} {text} {after} {end} w room =
    let stands : after ≡ text ++ drop (length text) before = w.bytes ∙ sets-eq text before 0 (omega (arith, room)) ∙ rw zero-add refl in
    let long : end ≡ length text = w.place ∙ zero-add _ in (
      ap (take end) stands ∙ take_at text (drop (length text) before) end (sym long),
      (omega (arith, long, ap length stands ∙ length-append text (drop (length text) before)), long),
    )
