-- Demand 2's timing sentence, and 02, 13/13, over any layout: when numbers are accepted, what they read back as, and what stays. The narrow and
-- the wide register file and the portable sibling use these laws; no number, register or chip is named here.
-- Assumes nothing.
use Prim.Native.Nat.{ℕ, ◌+◌, ◌-◌, ◌/◌, ◌%◌, ◌*◌, ◌^◌, ◌<◌}
use mathlib.Core.Path.{◌≡◌, refl, sym, ap, ap₂, ◌∙◌, subst}
use mathlib.Core.Bool.{Bool, true, false, cond, ◌&&◌}
use mathlib.Core.List.{List, [], ◌∷◌, ◌++◌, map}
use mathlib.Core.Logic.{◌↔◌}
use native.Mathlib.Omega.{arith}
use borrow.Author.Tests.{ltb-true, ltb-false, le-leb, lt-leb}
use lib.Dec.{T, leb, ltb}
use lib.ListN.{get_or, length}
use lib.Pow.{pow_pos}
use Rattle.bits.specs.Numbers.{Meaning, plus, end_of_last, Number, stored_for, in_range, read_numbers, ranges_from, all_in_range, write_numbers}
use Rattle.bits.specs.Pieces.{Piece, width, piece_reach, put, scatter}
use Rattle.bits.specs.Reach.{pieces_of, table_reach, fitting}
use Rattle.bits.specs.Store.{bit, within}
use Rattle.bits.proofs.Stored.{store-within}
use Rattle.bits.proofs.Tables.{written-length, written-outside, read_back, write-back, read-ranged}
use Rattle.bits.proofs.Test.{left, right, both, by-test, is_true, passes, chosen}
use Rattle.file.specs.declared.answer.Answer.{Answer}
use Rattle.file.specs.declared.answer.Answer.TheVariants.{Done, Locked, OutOfRange, NotSound}
use Rattle.file.specs.Answers.{refused, code_of, one_of}
use Rattle.file.specs.Sound.{all_within}
use Rattle.file.proofs.Soundness.{at, set-within}
use Rattle.timing.specs.Layout.{Layout, range_of, row_range, storable, Lawful, answer_by, registers_after, Accepted}
use Rattle.timing.specs.Ranges.{Range, lies_in, lie_from, all_lie_in}

-- Ranges: those that pieces and meanings give are the column's.

below_last : (v m : ℕ) → 0 < m → ltb v m ≡ leb v (m - 1)
below_last v m h =
    by-test (ltb v m) (λ t. t ∙ sym (le-leb v (m - 1) (omega (arith, ltb-true v m t))))
    (λ t. t ∙ sym (lt-leb v (m - 1) (omega (arith, ltb-false v m t))))

above-start : (a v : ℕ) → ltb a v ≡ leb (a + 1) v
above-start a v =
    by-test (ltb a v) (λ t. t ∙ sym (le-leb (a + 1) v (omega (arith, ltb-true a v t))))
    (λ t. t ∙ sym (lt-leb (a + 1) v (omega (arith, ltb-false a v t))))

range-given : (m : Meaning) (n last v : ℕ) → in_range m n last v ≡ lies_in (range_of m n) last v
unfolding in_range range_of lies_in
range-given (plus k) n last v = ap (λ (b : Bool). leb k v && b) (below_last v (k + 2 ^ n) (omega (arith, pow_pos n)))
range-given end_of_last n last v = ap (λ (b : Bool). b && leb v (last + 2 ^ n)) (above-start last v)

ranges-given : (last : ℕ) (table : List Number) (numbers : List ℕ) → ranges_from last table numbers ≡ lie_from last (map row_range table) numbers
unfolding ranges_from lie_from row_range
ranges-given last [] [] = refl
ranges-given last [] (v ∷ vs) = refl
ranges-given last (n ∷ ns) [] = refl
ranges-given last (n ∷ ns) (v ∷ vs) =
    ap₂ (λ (a b : Bool). a && b) (range-given n.meaning (width n.pieces) last v) (ranges-given v ns vs)

-- A write keeps every register within the bits that it stores.

storable-left : (stored : List ℕ) (ps qs : List Piece) → T (storable stored (ps ++ qs)) → T (storable stored ps)
unfolding storable
storable-left stored [] qs t = tt
storable-left stored (p ∷ ps) qs t =
    both (within (get_or stored p.register 0) (piece_reach p)) (storable stored ps)
    (left (within (get_or stored p.register 0) (piece_reach p)) (storable stored (ps ++ qs)) t)
    (storable-left stored ps qs (right (within (get_or stored p.register 0) (piece_reach p)) (storable stored (ps ++ qs)) t))

storable-right : (stored : List ℕ) (ps qs : List Piece) → T (storable stored (ps ++ qs)) → T (storable stored qs)
unfolding storable
storable-right stored [] qs t = t
storable-right stored (p ∷ ps) qs t =
    storable-right stored ps qs (right (within (get_or stored p.register 0) (piece_reach p)) (storable stored (ps ++ qs)) t)

scatter-within : (stored : List ℕ) (ps : List Piece) (n : ℕ) (registers : List ℕ)
    → T (storable stored ps) → T (all_within stored registers) → T (all_within stored (scatter ps n registers))
unfolding storable scatter put
scatter-within stored [] n registers t w = w
scatter-within stored (p ∷ ps) n registers t w =
    scatter-within stored ps n (put p (n / 2 ^ width ps) registers)
    (right (within (get_or stored p.register 0) (piece_reach p)) (storable stored ps) t)
    (set-within stored registers p.register _ w
    (store-within (get_or stored p.register 0) (piece_reach p) (get_or registers p.register 0) (n / 2 ^ width ps % 2 ^ p.width * 2 ^ p.low)
    (left (within (get_or stored p.register 0) (piece_reach p)) (storable stored ps) t)
    (at stored registers p.register w)))

pub written-within : (stored : List ℕ) (table : List Number) (numbers registers : List ℕ)
    → T (storable stored (pieces_of table)) → T (all_within stored registers) → T (all_within stored (write_numbers table numbers registers))
unfolding write_numbers pieces_of
written-within stored [] numbers registers t w = w
written-within stored (n ∷ ns) [] registers t w = w
written-within stored (n ∷ ns) (v ∷ vs) registers t w =
    written-within stored ns vs (scatter n.pieces (stored_for n.meaning v) registers)
    (storable-right stored n.pieces (pieces_of ns) t)
    (scatter-within stored n.pieces (stored_for n.meaning v) registers (storable-left stored n.pieces (pieces_of ns) t) w)

-- accepted if and only if the registers may be read, are unlocked, and every number is in its range
pub accepted-by : (l : Layout) (readable locked : Bool) (numbers : List ℕ)
    → (answer_by l readable locked numbers ≡ Done 0) ↔ Accepted l readable locked numbers
unfolding answer_by code_of
accepted-by l readable locked numbers = (
  by_tests readable locked (all_in_range l.table numbers) refl refl refl,
  λ p. rw (is_true readable p.is-readable, p.unlocked, is_true (all_in_range l.table numbers) p.ranged),
)
  where
    by_tests : (s u r : Bool) → readable ≡ s → locked ≡ u → all_in_range l.table numbers ≡ r
        → cond s (cond u Locked (cond r (Done 0) OutOfRange)) NotSound ≡ Done 0 → Accepted l readable locked numbers
    by_tests true false true s u r e =
        record { is-readable = passes readable s; unlocked = u; ranged = passes (all_in_range l.table numbers) r }
    by_tests true false false s u r e = absurd (let z : ◌≡◌ {A = ℕ} 10 0 = ap code_of e in omega arith)
    by_tests true true r s u r' e = absurd (let z : ◌≡◌ {A = ℕ} 8 0 = ap code_of e in omega arith)
    by_tests false u r s u' r' e = absurd (let z : ◌≡◌ {A = ℕ} 12 0 = ap code_of e in omega arith)

-- the answer's code is 0, 8, 10 or 12
pub codes-by : (l : Layout) (readable locked : Bool) (numbers : List ℕ) → T (one_of (0 ∷ 8 ∷ 10 ∷ 12 ∷ []) (answer_by l readable locked numbers))
unfolding one_of code_of answer_by
codes-by l readable locked numbers =
    chosen (one_of (0 ∷ 8 ∷ 10 ∷ 12 ∷ [])) readable _ NotSound
    (chosen (one_of (0 ∷ 8 ∷ 10 ∷ 12 ∷ [])) locked Locked _ tt
    (chosen (one_of (0 ∷ 8 ∷ 10 ∷ 12 ∷ [])) (all_in_range l.table numbers) (Done 0) OutOfRange tt tt)) tt

-- what holds of the registers as given and of those with the numbers holds of those after the writer
after-by : (P : List ℕ → Type 0) (l : Layout) (answer : Answer) (numbers registers : List ℕ)
    → P registers → P (write_numbers l.table numbers registers) → P (registers_after l answer numbers registers)
unfolding registers_after
after-by P l answer numbers registers p q = by-refusal (refused answer)
  where
    by-refusal : (b : Bool) → P (cond b registers (write_numbers l.table numbers registers))
    by-refusal true = p
    by-refusal false = q

-- no other bit moves, whatever is answered
pub others-kept : (l : Layout) (answer : Answer) (numbers registers : List ℕ) (r i : ℕ) → bit i (table_reach l.table r) ≡ 0
    → bit i (get_or (registers_after l answer numbers registers) r 0) ≡ bit i (get_or registers r 0)
others-kept l answer numbers registers r i e =
    after-by (λ (rs : List ℕ). bit i (get_or rs r 0) ≡ bit i (get_or registers r 0)) l answer numbers registers
    refl (written-outside l.table numbers registers r i e)

-- there are as many registers as before
pub count_kept : (l : Layout) (answer : Answer) (numbers registers : List ℕ) → length (registers_after l answer numbers registers) ≡ length registers
count_kept l answer numbers registers =
    after-by (λ (rs : List ℕ). length rs ≡ length registers) l answer numbers registers refl (written-length l.table numbers registers)

-- writing back what was read changes nothing, whatever is answered
pub writes-back-by : (l : Layout) (answer : Answer) (registers : List ℕ)
    → registers_after l answer (read_numbers l.table registers) registers ≡ registers
writes-back-by l answer registers =
    after-by (λ (rs : List ℕ). rs ≡ registers) l answer (read_numbers l.table registers) registers refl (write-back l.table registers)

module _ (l : Layout) (lawful : Lawful l) where
  -- numbers are in range exactly where each lies in its range of the column
  pub in-column : (numbers : List ℕ) → all_in_range l.table numbers ≡ all_lie_in l.ranges numbers
  unfolding all_in_range all_lie_in
  in-column numbers = ranges-given 0 l.table numbers ∙ ap (λ (rs : List Range). lie_from 0 rs numbers) lawful.column

  -- what is read lies there
  pub read-in-column : (registers : List ℕ) → T (all_lie_in l.ranges (read_numbers l.table registers))
  read-in-column registers =
      subst (λ (b : Bool). T b) (in-column (read_numbers l.table registers)) (read-ranged l.table registers)

  -- and of registers that may be read and are unlocked numbers are accepted exactly where they do
  pub accepted-in-column : (readable locked : Bool) (numbers : List ℕ) → T readable → locked ≡ false
      → (answer_by l readable locked numbers ≡ Done 0) ↔ T (all_lie_in l.ranges numbers)
  accepted-in-column readable locked numbers s u =
      rw (← in-column numbers) (
        λ e. ((accepted-by l readable locked numbers).0 e).ranged,
        λ r. (accepted-by l readable locked numbers).1 (record { is-readable = s; unlocked = u; ranged = r }),
      )

  -- what is accepted is read back
  pub reads-back-by : (readable locked : Bool) (numbers registers : List ℕ) → length registers ≡ length l.stored
      → answer_by l readable locked numbers ≡ Done 0
      → read_numbers l.table (registers_after l (answer_by l readable locked numbers) numbers registers) ≡ numbers
  unfolding registers_after refused code_of
  reads-back-by readable locked numbers registers n a =
      ap (λ (x : Answer). read_numbers l.table (registers_after l x numbers registers)) a
      ∙ read_back l.table numbers registers (subst (λ (k : ℕ). T (fitting k l.table)) (sym n) lawful.fits)
      ((accepted-by l readable locked numbers).0 a).ranged

  -- what is read from registers that may be read and are unlocked is accepted by them
  pub read-accepted-by : (readable locked : Bool) (registers : List ℕ) → T readable → locked ≡ false
      → answer_by l readable locked (read_numbers l.table registers) ≡ Done 0
  read-accepted-by readable locked registers s u =
      (accepted-in-column readable locked (read_numbers l.table registers) s u).1 (read-in-column registers)

  -- every register stays within the bits that it stores
  pub within-kept : (answer : Answer) (numbers registers : List ℕ) → T (all_within l.stored registers)
      → T (all_within l.stored (registers_after l answer numbers registers))
  within-kept answer numbers registers w =
      after-by (λ (rs : List ℕ). T (all_within l.stored rs)) l answer numbers registers w
      (written-within l.stored l.table numbers registers lawful.stores w)
