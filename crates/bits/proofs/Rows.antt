-- A table's numbers, one at a time: what a turn of the loops that read, test and write numbers does. Assumes nothing.
use Rattle.std.proofs.Common.{◌≡◌, ℕ, ◌+◌, ◌%◌, ◌^◌, ◌<◌, ◌≤◌, min, leb, Bool, true, false, ◌&&◌, List, [], ◌∷◌, ◌++◌, map, length, get_or, take, drop, set, sym, refl, ap, ◌∙◌, ap₂, append_assoc, add-one, arith, take-append-drop, drop_of_length-le, take-suc-set, drop-set-lt, leb-false, leb-true}
use mathlib.Core.Logic.{◌⊎◌, inl, inr}
use lib.Seq.{drop-cons}
use Rattle.bits.specs.declared.numbers.Number.{Number as DeclaredNumber}
use Rattle.bits.specs.Encoded.{piece_of, meaning_of, number_of, table_of}
use Rattle.bits.specs.Numbers.{Number, meant, in_range, ranges_from, all_in_range, write_numbers}
use Rattle.bits.specs.Pieces.{width, gather}
use Rattle.bits.specs.Words.{word, read_words}
use Rattle.bits.proofs.Encoded.{from_next}
use Rattle.bits.proofs.Enough.{meant-enough}
use Rattle.bits.proofs.Split.{gather-lt}
use Rattle.bits.proofs.Test.{by-test, and-false}

-- the number that code found is the word of its meaning and its pieces
pub number_word : (n : DeclaredNumber) (registers : List ℕ) (last bits stored number : ℕ)
    → stored ≡ gather registers (map piece_of n.pieces.now) % 2 ^ 32
    → number ≡ meant (meaning_of n.meaning) bits last stored % 2 ^ 32 → bits ≡ min 32 (width (map piece_of n.pieces.now))
    → number ≡ word last (number_of n) registers
unfolding word
number_word n registers last bits stored number e m is-width =
    m
    ∙ ap₂ (λ (x y : ℕ). meant (meaning_of n.meaning) x last y % 2 ^ 32) is-width e
    ∙ meant-enough (meaning_of n.meaning) (width (map piece_of n.pieces.now)) last (gather registers (map piece_of n.pieces.now)) (gather-lt (map piece_of n.pieces.now) registers)

module _ (table : List DeclaredNumber) (k : ℕ) (d : DeclaredNumber) (inside : k < length table) where
  -- the table from one number on: that one, and those behind it
  next_number : table_of (drop k table) ≡ number_of (get_or table k d) ∷ table_of (drop (k + 1) table)
  unfolding table_of
  next_number = ap (map number_of) (drop-cons table k d inside ∙ ap (λ (n : ℕ). get_or table k d ∷ drop n table) (sym (add-one k)))

  -- one number more is read
  pub read_next : (registers numbers : List ℕ) (last number : ℕ) → k < length numbers
      → number ≡ word last (number_of (get_or table k d)) registers
      → take (k + 1) (set numbers k number) ++ read_words number (table_of (drop (k + 1) table)) registers (drop (k + 1) (set numbers k number))
      ≡ take k numbers ++ read_words last (table_of (drop k table)) registers (drop k numbers)
  unfolding read_words
  read_next registers numbers last number place e =
      ap₂ (λ (l r : List ℕ). l ++ read_words number (table_of (drop (k + 1) table)) registers r)
      (ap (λ (x : ℕ). take x (set numbers k number)) (add-one k) ∙ take-suc-set numbers k number place)
      (drop-set-lt (k + 1) numbers k number (omega arith))
      ∙ append_assoc (take k numbers) (number ∷ []) (read_words number (table_of (drop (k + 1) table)) registers (drop (k + 1) numbers))
      ∙ ap (λ (x : ℕ). take k numbers ++ x ∷ read_words x (table_of (drop (k + 1) table)) registers (drop (k + 1) numbers)) e
      ∙ ap₂ (λ (t : List Number) (l : List ℕ). take k numbers ++ read_words last t registers l)
      (sym next_number) (sym (from_next numbers k place))

no_number : (table : List DeclaredNumber) (k : ℕ) → length table ≤ k → table_of (drop k table) ≡ []
unfolding table_of
no_number table k h = ap (map number_of) (drop_of_length-le table h)

-- where table or numbers end, no number of the one or of the other is left
ended : {A : Type 0} (table : List DeclaredNumber) (numbers : List ℕ) (k : ℕ) → min (length table) (length numbers) ≤ k
    → (table_of (drop k table) ≡ [] → A) → (drop k numbers ≡ [] → A) → A
ended table numbers k h no_table no-numbers =
    by-test (leb (length table) k)
    (λ t. no_table (no_number table k (leb-true (length table) k t)))
    (λ t. no-numbers (drop_of_length-le numbers (behind (leb-false (length table) k t))))
  where
    behind : k < length table → length numbers ≤ k
    behind l = omega arith

-- every number is read, and the places behind stay
pub read-last : (table : List DeclaredNumber) (registers numbers : List ℕ) (last k : ℕ) → min (length table) (length numbers) ≤ k
    → take k numbers ++ read_words last (table_of (drop k table)) registers (drop k numbers) ≡ numbers
unfolding read_words
read-last table registers numbers last k h =
    ended table numbers k h
    (λ e. ap (λ (t : List Number). take k numbers ++ read_words last t registers (drop k numbers)) e)
    (λ e. ap (λ (l : List ℕ). take k numbers ++ l) (ap (read_words last (table_of (drop k table)) registers) e ∙ none (table_of (drop k table)) ∙ sym e))
    ∙ take-append-drop k numbers
  where
    none : (table : List Number) → read_words last table registers [] ≡ []
    none [] = refl
    none (n ∷ ns) = refl

-- where both have ended, the numbers are in range
pub range-over : (last : ℕ) (table : List DeclaredNumber) (numbers : List ℕ) → length table ≡ length numbers
    → (length table ≡ 0) ⊎ (length numbers ≡ 0) → true ≡ ranges_from last (table_of table) numbers
unfolding ranges_from table_of
range-over last [] [] e over = refl
range-over last [] (v ∷ vs) e over = absurd (omega arith)
range-over last (n ∷ ns) [] e over = absurd (omega arith)
range-over last (n ∷ ns) (v ∷ vs) e (inl z) = absurd (omega arith)
range-over last (n ∷ ns) (v ∷ vs) e (inr z) = absurd (omega arith)

-- another count of numbers than the table has is not in range
uncounted : (last : ℕ) (table : List DeclaredNumber) (numbers : List ℕ) → (length table ≡ length numbers → ⊥)
    → ranges_from last (table_of table) numbers ≡ false
unfolding ranges_from table_of
uncounted last [] [] h = absurd (h refl)
uncounted last [] (v ∷ vs) h = refl
uncounted last (n ∷ ns) [] h = refl
uncounted last (n ∷ ns) (v ∷ vs) h =
    ap (λ (b : Bool). in_range (number_of n).meaning (width (number_of n).pieces) last v && b) (uncounted v ns vs (λ e. h (omega arith)))
    ∙ and-false (in_range (number_of n).meaning (width (number_of n).pieces) last v)

pub range-uncounted : (table : List DeclaredNumber) (numbers : List ℕ) → (length table ≡ length numbers → ⊥)
    → all_in_range (table_of table) numbers ≡ false
unfolding all_in_range
range-uncounted table numbers h = uncounted 0 table numbers h

-- and nothing more is written
pub write-over : (table : List DeclaredNumber) (numbers registers : List ℕ) → (length table ≡ 0) ⊎ (length numbers ≡ 0)
    → write_numbers (table_of table) numbers registers ≡ registers
unfolding write_numbers table_of
write-over [] numbers registers over = refl
write-over (n ∷ ns) [] registers over = refl
write-over (n ∷ ns) (v ∷ vs) registers (inl z) = absurd (omega arith)
write-over (n ∷ ns) (v ∷ vs) registers (inr z) = absurd (omega arith)
