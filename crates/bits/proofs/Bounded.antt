-- A table whose numbers stay below a bound: those that are read do, and below 2^32 their words are the numbers. Assumes nothing.
use Rattle.std.proofs.Common.{◌≡◌, ℕ, zero, suc, ◌+◌, ◌^◌, ◌<◌, ◌≤◌, T, ltb, List, [], ◌∷◌, length, get_or, take, refl, ap, ◌∙◌, le_refl, lt_of_lt_of_le, le_of_suc-le-suc, not-suc-le-zero, lt_of_le_of_lt, mod-eq_of_lt, arith, ltb→lt, lt→ltb}
use Rattle.bits.specs.Numbers.{Meaning, plus, end_of_last, Number, meant, read_from, read_numbers}
use Rattle.bits.specs.Pieces.{width, gather}
use Rattle.bits.specs.Words.{word, read_words, most, bounded}
use Rattle.bits.proofs.Ends.{end-most}
use Rattle.bits.proofs.Split.{gather-lt}
use Rattle.bits.proofs.Test.{left, right, both}

most-up : (m : Meaning) (n small large : ℕ) → small ≤ large → most m n small ≤ most m n large
unfolding most
most-up (plus k) n small large h = le_refl (k + 2 ^ n)
most-up end_of_last n small large h = omega arith

-- a bound that holds after one number holds after a smaller one
pub bounded-down : (bound small large : ℕ) (table : List Number) → small ≤ large → T (bounded bound large table) → T (bounded bound small table)
unfolding bounded
bounded-down bound small large [] h t = tt
bounded-down bound small large (n ∷ ns) h t =
    both (ltb (most n.meaning (width n.pieces) small) bound) (bounded bound (most n.meaning (width n.pieces) small) ns)
    (lt→ltb (most n.meaning (width n.pieces) small) bound
    (lt_of_le_of_lt up (ltb→lt (most n.meaning (width n.pieces) large) bound
    (left (ltb (most n.meaning (width n.pieces) large) bound) (bounded bound (most n.meaning (width n.pieces) large) ns) t))))
    (bounded-down bound (most n.meaning (width n.pieces) small) (most n.meaning (width n.pieces) large) ns up
    (right (ltb (most n.meaning (width n.pieces) large) bound) (bounded bound (most n.meaning (width n.pieces) large) ns) t))
  where
    up : most n.meaning (width n.pieces) small ≤ most n.meaning (width n.pieces) large
    up = most-up n.meaning (width n.pieces) small large h

-- the first number's bound
pub bounded-first : (bound last : ℕ) (n : Number) (ns : List Number) → T (bounded bound last (n ∷ ns))
    → most n.meaning (width n.pieces) last < bound
unfolding bounded
bounded-first bound last n ns t =
    ltb→lt (most n.meaning (width n.pieces) last) bound
    (left (ltb (most n.meaning (width n.pieces) last) bound) (bounded bound (most n.meaning (width n.pieces) last) ns) t)

-- and, after any number up to it, the others'
pub bounded-rest : (bound last number : ℕ) (n : Number) (ns : List Number) → number ≤ most n.meaning (width n.pieces) last
    → T (bounded bound last (n ∷ ns)) → T (bounded bound number ns)
unfolding bounded
bounded-rest bound last number n ns h t =
    bounded-down bound number (most n.meaning (width n.pieces) last) ns h
    (right (ltb (most n.meaning (width n.pieces) last) bound) (bounded bound (most n.meaning (width n.pieces) last) ns) t)

-- what is read is no larger
pub meant-most : (m : Meaning) (n last stored : ℕ) → stored < 2 ^ n → meant m n last stored ≤ most m n last
unfolding meant most
meant-most (plus k) n last stored h = omega arith
meant-most end_of_last n last stored h = end-most last n stored

-- the first number is below the bound, and the others are bounded after it
module _ (bound last : ℕ) (n : Number) (ns : List Number) (registers : List ℕ) (t : T (bounded bound last (n ∷ ns))) where
  number-most : meant n.meaning (width n.pieces) last (gather registers n.pieces) ≤ most n.meaning (width n.pieces) last
  number-most = meant-most n.meaning (width n.pieces) last (gather registers n.pieces) (gather-lt n.pieces registers)

  number-below : meant n.meaning (width n.pieces) last (gather registers n.pieces) < bound
  number-below = lt_of_le_of_lt number-most (bounded-first bound last n ns t)

  bounded-after : T (bounded bound (meant n.meaning (width n.pieces) last (gather registers n.pieces)) ns)
  bounded-after = bounded-rest bound last (meant n.meaning (width n.pieces) last (gather registers n.pieces)) n ns number-most t

-- every number that is read is below the bound
pub read_below : (bound last : ℕ) (table : List Number) (registers : List ℕ) → T (bounded bound last table)
    → (k : ℕ) → k < length table → get_or (read_from last table registers) k 0 < bound
unfolding read_from
read_below bound last [] registers t k h = absurd (not-suc-le-zero h)
read_below bound last (n ∷ ns) registers t zero h = number-below bound last n ns registers t
read_below bound last (n ∷ ns) registers t (suc k) h =
    read_below bound (meant n.meaning (width n.pieces) last (gather registers n.pieces)) ns registers
    (bounded-after bound last n ns registers t) k (le_of_suc-le-suc h)

-- a bound of 2^32 or less: the words of the table, in as many places, are its numbers
words-from : (bound last : ℕ) (table : List Number) (registers places : List ℕ) → bound ≤ 2 ^ 32 → T (bounded bound last table)
    → length places ≡ length table → read_words last table registers places ≡ read_from last table registers
unfolding read_words read_from word
words-from bound last [] registers [] fits t e = refl
words-from bound last [] registers (x ∷ xs) fits t e = absurd (omega arith)
words-from bound last (n ∷ ns) registers [] fits t e = absurd (omega arith)
words-from bound last (n ∷ ns) registers (x ∷ xs) fits t e =
    ap (λ (w : ℕ). w ∷ read_words w ns registers xs) (mod-eq_of_lt (lt_of_lt_of_le (number-below bound last n ns registers t) fits))
    ∙ ap (λ (l : List ℕ). meant n.meaning (width n.pieces) last (gather registers n.pieces) ∷ l)
    (words-from bound (meant n.meaning (width n.pieces) last (gather registers n.pieces)) ns registers xs fits
    (bounded-after bound last n ns registers t) (omega arith))

pub words-numbers : (bound : ℕ) (table : List Number) (registers places : List ℕ) → bound ≤ 2 ^ 32 → T (bounded bound 0 table)
    → length places ≡ length table → read_words 0 table registers places ≡ read_numbers table registers
unfolding read_numbers
words-numbers bound table registers places fits t e = words-from bound 0 table registers places fits t e

-- the first rows read the first numbers
pub read_first : (last : ℕ) (table : List Number) (registers : List ℕ) (j : ℕ)
    → read_from last (take j table) registers ≡ take j (read_from last table registers)
unfolding read_from
read_first last table registers zero = refl
read_first last [] registers (suc j) = refl
read_first last (n ∷ ns) registers (suc j) =
    ap (λ (xs : List ℕ). meant n.meaning (width n.pieces) last (gather registers n.pieces) ∷ xs)
    (read_first (meant n.meaning (width n.pieces) last (gather registers n.pieces)) ns registers j)
