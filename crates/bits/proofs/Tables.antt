-- A table of numbers in pieces: what was written is read back, what was read is written back without a change, and no other bit moves.
-- The table is any whose pieces are disjoint and lie in registers that are there, one computed test.
-- Assumes nothing.
use Rattle.std.proofs.Common.{◌≡◌, ℕ, ◌+◌, ◌%◌, ◌^◌, ◌<◌, ◌≤◌, T, ltb, leb, List, [], ◌∷◌, length, get_or, sym, refl, ap, ◌∙◌, subst, mod-eq_of_lt, sub-add_cancel, add-sub_cancel, arith, le→leb, ltb→lt, lt→ltb, leb→le}
use Rattle.bits.specs.Numbers.{Meaning, plus, end_of_last, Number, end_after, meant, stored_for, in_range, read_from, read_numbers, ranges_from, all_in_range, write_numbers}
use Rattle.bits.specs.Pieces.{width, gather, scatter}
use Rattle.bits.specs.Reach.{disjoint, present, pieces_of, table_reach, fitting}
use Rattle.bits.specs.Store.{bit}
use Rattle.bits.proofs.Ends.{end-above, end-most, end_low, end_of}
use Rattle.bits.proofs.Split.{reach-append, scatter-length, scatter-outside, gather-lt, gather-same, across, disjoint_left, disjoint_right, present-left, present-right, gather-scatter, scatter-low, scatter-gather}
use Rattle.bits.proofs.Test.{left, right, both}

-- a number in its range is told by the bits that are stored of it
meant-stored : (m : Meaning) (n last number : ℕ) → T (in_range m n last number) → meant m n last (stored_for m number % 2 ^ n) ≡ number
unfolding in_range meant stored_for
meant-stored (plus k) n last number t =
    ap (λ (x : ℕ). x + k) (mod-eq_of_lt (omega (arith, most, least))) ∙ sub-add_cancel least
  where
    least : k ≤ number
    least = leb→le k number (left (leb k number) (ltb number (k + 2 ^ n)) t)

    most : number < k + 2 ^ n
    most = ltb→lt number (k + 2 ^ n) (right (leb k number) (ltb number (k + 2 ^ n)) t)
meant-stored end_of_last n last number t =
    end_of last n number
    (ltb→lt last number (left (ltb last number) (leb number (last + 2 ^ n)) t))
    (leb→le number (last + 2 ^ n) (right (ltb last number) (leb number (last + 2 ^ n)) t))

-- what stored bits mean is stored as those bits
stored-meant : (m : Meaning) (n last stored : ℕ) → stored < 2 ^ n → stored_for m (meant m n last stored) % 2 ^ n ≡ stored
unfolding meant stored_for
stored-meant (plus k) n last stored h = ap (λ (x : ℕ). x % 2 ^ n) (add-sub_cancel stored k) ∙ mod-eq_of_lt h
stored-meant end_of_last n last stored h = end_low last n stored h

-- what stored bits mean is in range
meant-ranged : (m : Meaning) (n last stored : ℕ) → stored < 2 ^ n → T (in_range m n last (meant m n last stored))
unfolding meant in_range
meant-ranged (plus k) n last stored h =
    both (leb k (stored + k)) (ltb (stored + k) (k + 2 ^ n)) (le→leb k (stored + k) (omega arith)) (lt→ltb (stored + k) (k + 2 ^ n) (omega arith))
meant-ranged end_of_last n last stored h =
    both (ltb last (end_after last n stored)) (leb (end_after last n stored) (last + 2 ^ n))
    (lt→ltb last (end_after last n stored) (end-above last n stored))
    (le→leb (end_after last n stored) (last + 2 ^ n) (end-most last n stored))

-- writing keeps the number of registers
pub written-length : (table : List Number) (numbers registers : List ℕ) → length (write_numbers table numbers registers) ≡ length registers
unfolding write_numbers
written-length [] numbers registers = refl
written-length (n ∷ ns) [] registers = refl
written-length (n ∷ ns) (v ∷ vs) registers =
    written-length ns vs (scatter n.pieces (stored_for n.meaning v) registers)
    ∙ scatter-length n.pieces (stored_for n.meaning v) registers

-- no bit outside the table's pieces moves
pub written-outside : (table : List Number) (numbers registers : List ℕ) (r i : ℕ) → bit i (table_reach table r) ≡ 0
    → bit i (get_or (write_numbers table numbers registers) r 0) ≡ bit i (get_or registers r 0)
unfolding write_numbers table_reach pieces_of
written-outside [] numbers registers r i e = refl
written-outside (n ∷ ns) [] registers r i e = refl
written-outside (n ∷ ns) (v ∷ vs) registers r i e =
    written-outside ns vs (scatter n.pieces (stored_for n.meaning v) registers) r i (omega (arith, reach-append n.pieces (pieces_of ns) r i))
    ∙ scatter-outside n.pieces (stored_for n.meaning v) registers r i (omega (arith, reach-append n.pieces (pieces_of ns) r i))

-- reading what was written gives the numbers, if they are in range
read-from : (last : ℕ) (table : List Number) (numbers registers : List ℕ)
    → T (disjoint (pieces_of table)) → T (present (length registers) (pieces_of table)) → T (ranges_from last table numbers)
    → read_from last table (write_numbers table numbers registers) ≡ numbers
unfolding read_from ranges_from write_numbers pieces_of table_reach
read-from last [] [] registers d l t = refl
read-from last [] (v ∷ vs) registers d l t = absurd t
read-from last (n ∷ ns) [] registers d l t = absurd t
read-from last (n ∷ ns) (v ∷ vs) registers d l t =
    ap (λ (x : ℕ). x ∷ read_from x ns after) first
    ∙ ap (λ (xs : List ℕ). v ∷ xs)
    (read-from v ns vs next (disjoint_right n.pieces (pieces_of ns) d)
    (subst (λ (k : ℕ). T (present k (pieces_of ns))) (sym (scatter-length n.pieces (stored_for n.meaning v) registers))
    (present-right (length registers) n.pieces (pieces_of ns) l))
    (right (in_range n.meaning (width n.pieces) last v) (ranges_from v ns vs) t))
  where
    next : List ℕ
    next = scatter n.pieces (stored_for n.meaning v) registers

    after : List ℕ
    after = write_numbers ns vs next

    kept : gather after n.pieces ≡ gather next n.pieces
    kept =
        gather-same n.pieces after next
        (λ r i e. written-outside ns vs next r i (across n.pieces (pieces_of ns) d r i e))

    first : meant n.meaning (width n.pieces) last (gather after n.pieces) ≡ v
    first =
        ap (meant n.meaning (width n.pieces) last)
        (kept
        ∙ gather-scatter n.pieces (stored_for n.meaning v) registers (disjoint_left n.pieces (pieces_of ns) d)
        (present-left (length registers) n.pieces (pieces_of ns) l))
        ∙ meant-stored n.meaning (width n.pieces) last v (left (in_range n.meaning (width n.pieces) last v) (ranges_from v ns vs) t)

pub read_back : (table : List Number) (numbers registers : List ℕ) → T (fitting (length registers) table) → T (all_in_range table numbers)
    → read_numbers table (write_numbers table numbers registers) ≡ numbers
unfolding fitting all_in_range read_numbers
read_back table numbers registers f t =
    read-from 0 table numbers registers
    (left (disjoint (pieces_of table)) (present (length registers) (pieces_of table)) f)
    (right (disjoint (pieces_of table)) (present (length registers) (pieces_of table)) f) t

-- writing what was read changes nothing
write-from : (last : ℕ) (table : List Number) (registers : List ℕ) → write_numbers table (read_from last table registers) registers ≡ registers
unfolding read_from write_numbers
write-from last [] registers = refl
write-from last (n ∷ ns) registers =
    ap (write_numbers ns (read_from number ns registers))
    (sym (scatter-low n.pieces (stored_for n.meaning number) registers)
    ∙ ap (λ (x : ℕ). scatter n.pieces x registers)
    (stored-meant n.meaning (width n.pieces) last (gather registers n.pieces) (gather-lt n.pieces registers))
    ∙ scatter-gather n.pieces registers)
    ∙ write-from number ns registers
  where
    number : ℕ
    number = meant n.meaning (width n.pieces) last (gather registers n.pieces)

pub write-back : (table : List Number) (registers : List ℕ) → write_numbers table (read_numbers table registers) registers ≡ registers
unfolding read_numbers
write-back table registers = write-from 0 table registers

-- what is read is in range
ranged-from : (last : ℕ) (table : List Number) (registers : List ℕ) → T (ranges_from last table (read_from last table registers))
unfolding read_from ranges_from
ranged-from last [] registers = tt
ranged-from last (n ∷ ns) registers =
    both (in_range n.meaning (width n.pieces) last number) (ranges_from number ns (read_from number ns registers))
    (meant-ranged n.meaning (width n.pieces) last (gather registers n.pieces) (gather-lt n.pieces registers))
    (ranged-from number ns registers)
  where
    number : ℕ
    number = meant n.meaning (width n.pieces) last (gather registers n.pieces)

pub read-ranged : (table : List Number) (registers : List ℕ) → T (all_in_range table (read_numbers table registers))
unfolding all_in_range read_numbers
read-ranged table registers = ranged-from 0 table registers
