-- A table of numbers as straight code goes through it, a call for each number: what the calls told, one beside the other, and what that makes of the
-- whole table. Assumes nothing.
use Rattle.std.proofs.Common.{◌≡◌, ℕ, ◌+◌, ◌≤◌, Bool, ◌&&◌, List, [], ◌∷◌, length, get_or, drop, sym, refl, ap, ◌∙◌, arith, drop_of_length-le}
use Rattle.bits.specs.Numbers.{Number, stored_for, in_range, ranges_from, write_numbers}
use Rattle.bits.specs.Pieces.{width, scatter}
use Rattle.bits.specs.Words.{word, read_words}
use Rattle.bits.proofs.Encoded.{from_next}
use Rattle.bits.proofs.Test.{and-true, and_assoc}

-- each number was read after the one before it
unfoldable pub Reads : ℕ → List Number → List ℕ → List ℕ → Type 0
Reads last [] registers numbers = numbers ≡ []
Reads last (n ∷ ns) registers [] = ⊥
Reads last (n ∷ ns) registers (v ∷ vs) = (v ≡ word last n registers) × Reads v ns registers vs

pub reads-words : (last : ℕ) (table : List Number) (registers numbers : List ℕ) → Reads last table registers numbers
    → numbers ≡ read_words last table registers numbers
unfolding Reads read_words
reads-words last [] registers numbers e = refl
reads-words last (n ∷ ns) registers [] e = absurd e
reads-words last (n ∷ ns) registers (v ∷ vs) (e, r) =
    ap (λ (l : List ℕ). v ∷ l) (reads-words v ns registers vs r) ∙ ap (λ (x : ℕ). x ∷ read_words x ns registers vs) e

-- all that are told so far, and those that follow
unfoldable pub all_so_far : Bool → List Bool → Bool
all_so_far so [] = so
all_so_far so (g ∷ gs) = all_so_far (so && g) gs

-- each number from k on was held to its range
unfoldable pub Ranged : ℕ → ℕ → List Number → List ℕ → List Bool → Type 0
Ranged k last [] numbers goods = goods ≡ []
Ranged k last (n ∷ ns) numbers [] = ⊥
Ranged k last (n ∷ ns) numbers (g ∷ gs) =
    (g ≡ in_range n.meaning (width n.pieces) last (get_or numbers k 0)) × Ranged (k + 1) (get_or numbers k 0) ns numbers gs

pub ranged-from : (so : Bool) (k last : ℕ) (table : List Number) (numbers : List ℕ) (goods : List Bool) → length numbers ≡ k + length table
    → Ranged k last table numbers goods → all_so_far so goods ≡ (so && ranges_from last table (drop k numbers))
unfolding Ranged all_so_far ranges_from
ranged-from so k last [] numbers goods count e =
    let none : length numbers ≤ k = omega arith in
    ap (all_so_far so) e ∙ sym (ap (λ (l : List ℕ). so && ranges_from last [] l) (drop_of_length-le numbers none) ∙ and-true so)
ranged-from so k last (n ∷ ns) numbers [] count e = absurd e
ranged-from so k last (n ∷ ns) numbers (g ∷ gs) count (e, r) =
    ranged-from (so && g) (k + 1) (get_or numbers k 0) ns numbers gs (omega arith) r
    ∙ and_assoc so g (ranges_from (get_or numbers k 0) ns (drop (k + 1) numbers))
    ∙ ap (λ (b : Bool). so && (b && ranges_from (get_or numbers k 0) ns (drop (k + 1) numbers))) e
    ∙ ap (λ (l : List ℕ). so && ranges_from last (n ∷ ns) l) (sym (from_next numbers k (omega arith)))

unfoldable pub last_of : List ℕ → List (List ℕ) → List ℕ
last_of registers [] = registers
last_of registers (next ∷ rest) = last_of next rest

-- each number from k on was written, after the one before it
unfoldable pub Writes : ℕ → List Number → List ℕ → List ℕ → List (List ℕ) → Type 0
Writes k [] numbers registers after = after ≡ []
Writes k (n ∷ ns) numbers registers [] = ⊥
Writes k (n ∷ ns) numbers registers (next ∷ rest) =
    (next ≡ scatter n.pieces (stored_for n.meaning (get_or numbers k 0)) registers) × Writes (k + 1) ns numbers next rest

pub writes-numbers : (k : ℕ) (table : List Number) (numbers registers : List ℕ) (after : List (List ℕ)) → length numbers ≡ k + length table
    → Writes k table numbers registers after → last_of registers after ≡ write_numbers table (drop k numbers) registers
unfolding Writes last_of write_numbers
writes-numbers k [] numbers registers after count e = ap (last_of registers) e
writes-numbers k (n ∷ ns) numbers registers [] count e = absurd e
writes-numbers k (n ∷ ns) numbers registers (next ∷ rest) count (e, r) =
    writes-numbers (k + 1) ns numbers next rest (omega arith) r
    ∙ ap (write_numbers ns (drop (k + 1) numbers)) e
    ∙ ap (λ (l : List ℕ). write_numbers (n ∷ ns) l registers) (sym (from_next numbers k (omega arith)))
