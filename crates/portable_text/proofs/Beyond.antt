-- A number of a list that is above 65,535 is held as that, and is refused as it would be itself: the writer answers by the numbers that the list says.
-- Assumes nothing.
use Rattle.std.specs.Prelude.{Some, None}
use Rattle.std.proofs.lemmas.Option.{cond_some}
use Prim.Native.Nat.{ℕ, zero, suc, ◌+◌, ◌^◌, ◌≤◌, ◌<◌, min}
use mathlib.Core.Bool.{Bool, true, false, cond, ◌&&◌}
use mathlib.Core.List.{List, [], ◌∷◌, map}
use mathlib.Core.Path.{◌≡◌, refl, sym, ap, ap₂, ◌∙◌}
use native.Mathlib.Omega.{arith}
use borrow.Author.Tests.{leb-true, ltb-true}
use lib.Dec.{T, eqb, eqb→eq, leb, ltb}
use lib.ListN.{drop, drop_of_length-le, get_or, length, length-map}
use lib.Seq.{drop-cons}
use Rattle.bits.specs.Numbers.{Meaning, plus, end_of_last, Number, in_range, ranges_from, all_in_range}
use Rattle.bits.specs.Pieces.{width}
use Rattle.bits.specs.Words.{most, bounded}
use Rattle.bits.proofs.Bounded.{bounded-first, bounded-rest}
use Rattle.bits.proofs.Test.{by-test, is_true, left, passes, right}
use Rattle.modes.specs.Form.{every, value_of}
use Rattle.file.specs.declared.answer.Answer.TheVariants.{Done, Locked, OutOfRange, NotSound}
use Rattle.timing.specs.Layout.{answer_by}
use Rattle.timing.proofs.Layouts.{accepted-by}
use Rattle.portable.specs.declared.Timing.{Timing}
use Rattle.portable.specs.Table.{table, layout}
use Rattle.portable.specs.Timing.{locked, numbers_of, readable, timing_answer, timing_of}
use Rattle.portable_text.specs.Numbers.{held_of, is_list, listed_by, listed_in, number, parts}

-- no number in range is larger
range-most : (m : Meaning) (n last v : ℕ) → in_range m n last v ≡ true → v ≤ most m n last
unfolding in_range most
range-most (plus k) n last v e = omega (arith, ltb-true v (k + 2 ^ n) (is_true (ltb v (k + 2 ^ n)) (right (leb k v) (ltb v (k + 2 ^ n)) (passes (leb k v && ltb v (k + 2 ^ n)) e))))
range-most end_of_last n last v e = leb-true v (last + 2 ^ n) (is_true (leb v (last + 2 ^ n)) (right (ltb last v) (leb v (last + 2 ^ n)) (passes (ltb last v && leb v (last + 2 ^ n)) e)))

within : (v : ℕ) → v ≤ 65535 → min v 65535 ≡ v
within v h = omega arith

-- a number out of range is out of it as it is held
held_out : (m : Meaning) (n last v : ℕ) → most m n last < 65535 → in_range m n last v ≡ false → in_range m n last (min v 65535) ≡ false
held_out m n last v b e =
    by-test (in_range m n last (min v 65535))
    (λ h. ap (in_range m n last) (within v (omega (arith, range-most m n last (min v 65535) h, b))) ∙ e)
    (λ h. h)

held-ranges : (last : ℕ) (table : List Number) (ps : List (List ℕ)) → T (bounded 65535 last table)
    → ranges_from last table (map held_of ps) ≡ ranges_from last table (map value_of ps)
unfolding ranges_from held_of
held-ranges last [] [] t = refl
held-ranges last [] (p ∷ ps) t = refl
held-ranges last (n ∷ ns) [] t = refl
held-ranges last (n ∷ ns) (p ∷ ps) t =
    by-test (in_range n.meaning (width n.pieces) last (value_of p))
    (λ e. ap (λ (x : ℕ). in_range n.meaning (width n.pieces) last x && ranges_from x ns (map held_of ps)) (within (value_of p) (omega (arith, low e, bounded-first 65535 last n ns t)))
    ∙ ap (λ (b : Bool). in_range n.meaning (width n.pieces) last (value_of p) && b)
    (held-ranges (value_of p) ns ps (bounded-rest 65535 last (value_of p) n ns (low e) t)))
    (λ e. ap₂ (λ (a b : Bool). a && b) (held_out n.meaning (width n.pieces) last (value_of p) (bounded-first 65535 last n ns t) e) refl
    ∙ sym (ap₂ (λ (a b : Bool). a && b) e refl))
  where
    low : in_range n.meaning (width n.pieces) last (value_of p) ≡ true → value_of p ≤ most n.meaning (width n.pieces) last
    low e = range-most n.meaning (width n.pieces) last (value_of p) e

-- fourteen numbers as a timing are these numbers
gets : ℕ → ℕ → List ℕ → List ℕ
gets zero k ns = []
gets (suc n) k ns = get_or ns k 0 ∷ gets n (suc k) ns

all-gets : (n k : ℕ) (ns : List ℕ) → length ns ≡ k + n → gets n k ns ≡ drop k ns
unfolding gets
all-gets zero k ns e = sym (drop_of_length-le ns {i = k} (omega (arith, e)))
all-gets (suc n) k ns e =
    ap (λ (rest : List ℕ). get_or ns k 0 ∷ rest) (all-gets n (suc k) ns (omega (arith, e)))
    ∙ sym (drop-cons ns k 0 (omega (arith, e)))

fourteen : (ns : List ℕ) → length ns ≡ 14 → numbers_of (timing_of ns) ≡ ns
unfolding timing_of gets
fourteen ns e = all-gets 14 0 ns e

table-low : T (bounded 65535 0 table)
unfolding bounded most width table
table-low = tt

-- a list has a timing, with its numbers as they are held; what is no list has none
pub list_there : (text : List ℕ) → T (is_list (parts text)) → listed_in text ≡ Some (timing_of (map held_of (parts text)))
unfolding listed_in listed_by
list_there text t = rw (is_true (is_list (parts text)) t)

pub list_none : (text : List ℕ) → is_list (parts text) ≡ false → listed_in text ≡ None
unfolding listed_in listed_by
list_none text e = rw e

listed-numbers : (ps : List (List ℕ)) (t : Timing) → listed_by ps ≡ Some t → numbers_of t ≡ map held_of ps
unfolding listed_by is_list
listed-numbers ps t e =
    let found = cond_some (is_list ps) (timing_of (map held_of ps)) t e in
    ap numbers_of (sym found.1)
    ∙ fourteen (map held_of ps) (length-map ps held_of ∙ eqb→eq (length ps) 14 (left (eqb (length ps) 14) (every number ps) (passes (is_list ps) found.0)))

-- the ranges alone decide of the numbers
by-ranges : (readable locked : Bool) (a b : List ℕ) → all_in_range table a ≡ all_in_range table b
    → answer_by layout readable locked a ≡ answer_by layout readable locked b
unfolding answer_by
by-ranges readable locked a b e = ap (λ (r : Bool). cond readable (cond locked Locked (cond r (Done 0) OutOfRange)) NotSound) e

pub held-alike : (bytes text : List ℕ) (t : Timing) → listed_in text ≡ Some t
    → timing_answer bytes t ≡ answer_by layout (readable bytes) (locked bytes) (map value_of (parts text))
unfolding timing_answer listed_in all_in_range
held-alike bytes text t e =
    ap (answer_by layout (readable bytes) (locked bytes)) (listed-numbers (parts text) t e)
    ∙ by-ranges (readable bytes) (locked bytes) (map held_of (parts text)) (map value_of (parts text)) (held-ranges 0 table (parts text) table-low)

-- numbers in their ranges are held as they are
held-values : (last : ℕ) (table : List Number) (ps : List (List ℕ)) → T (bounded 65535 last table) → T (ranges_from last table (map value_of ps))
    → map held_of ps ≡ map value_of ps
unfolding ranges_from held_of
held-values last [] [] t r = refl
held-values last [] (p ∷ ps) t r = absurd r
held-values last (n ∷ ns) [] t r = refl
held-values last (n ∷ ns) (p ∷ ps) t r =
    let here = in_range n.meaning (width n.pieces) last (value_of p) in
    let rest = ranges_from (value_of p) ns (map value_of ps) in
    let low = range-most n.meaning (width n.pieces) last (value_of p) (is_true here (left here rest r)) in
    ap₂ (λ (v : ℕ) (vs : List ℕ). v ∷ vs) (within (value_of p) (omega (arith, low, bounded-first 65535 last n ns t)))
    (held-values (value_of p) ns ps (bounded-rest 65535 last (value_of p) n ns low t) (right here rest r))

-- and so what an accepted list is written with are the numbers that it says
pub held_same : (bytes text : List ℕ) (t : Timing) → listed_in text ≡ Some t → timing_answer bytes t ≡ Done 0
    → numbers_of t ≡ map value_of (parts text)
unfolding listed_in all_in_range
held_same bytes text t e done =
    listed-numbers (parts text) t e
    ∙ held-values 0 table (parts text) table-low
    ((accepted-by layout (readable bytes) (locked bytes) (map value_of (parts text))).0 (sym (held-alike bytes text t e) ∙ done)).ranged
