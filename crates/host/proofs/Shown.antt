-- What a reader of a file leaves in a lent list, and a timing of numbers that have more than 16 bits. Assumes nothing.
use Prim.Native.Nat.{ℕ, zero, suc, ◌+◌, ◌^◌, ◌≤◌, ◌<◌}
use mathlib.Core.Path.{◌≡◌, refl, sym, ap, ap₂, ◌∙◌}
use mathlib.Core.Bool.{Bool, true, false, true≢false}
use mathlib.Core.List.{List, [], ◌∷◌}
use native.Mathlib.Omega.{arith}
use borrow.Author.Tests.{le-leb, lt-leb}
use lib.Dec.{T, leb, ltb, leb→le, ltb→lt}
use lib.ListN.{get_or, take}
use Rattle.bits.specs.Numbers.{Meaning, plus, end_of_last, Number, in_range, ranges_from, all_in_range}
use Rattle.bits.specs.Pieces.{width}
use Rattle.bits.specs.Store.{bits}
use Rattle.bits.specs.Words.{most, bounded}
use Rattle.bits.proofs.Bounded.{bounded-first, bounded-rest}
use Rattle.bits.proofs.Test.{by-test, left, right, passes}
use Rattle.file.specs.declared.answer.Answer.{Answer}
use Rattle.file.specs.declared.registers.File.{File}
use Rattle.file.specs.Answers.{code_of, refused}
use Rattle.file.specs.File.{with_registers, crtc_locked}
use Rattle.file.specs.Sound.{sound}
use Rattle.geometry.specs.Geometry.{cursor_in, no_cursor, read_geometry}
use Rattle.timing.specs.declared.Timing.{Timing}
use Rattle.timing.specs.declared.Written.{Written}
use Rattle.timing.specs.Table.{table, wide}
use Rattle.timing.specs.Timing.{timing_of, numbers_of, timing_answer, written_file, with_timing, write_timing}
use Rattle.image.specs.Parts.{fits_in, held_in}
use Rattle.host.specs.Left.{TimingLeft}
use Rattle.host.specs.Lists.{shown_by, clipped, clipped_first, timing_clipped}

-- ---- a reader's three ends: a rest that is no file's, a refusal, and numbers

module _ {A : Type 0} (rest : List ℕ) (a : Answer) (numbers before : List A) where
  pub shown-unfit : fits_in rest ≡ false → (12 ≡ (shown_by rest a numbers before).code) × (before ≡ (shown_by rest a numbers before).numbers)
  unfolding shown_by
  shown-unfit e = (rw e, rw e)

  pub shown-refused : fits_in rest ≡ true → (number : ℕ) → number ≡ code_of a → 2 ≤ number
      → (number ≡ (shown_by rest a numbers before).code) × (before ≡ (shown_by rest a numbers before).numbers)
  unfolding shown_by refused
  shown-refused e number n h = let over = ap (leb 2) (sym n) ∙ le-leb 2 number h in (rw e n, rw (e, over))

  pub shown-done : fits_in rest ≡ true → (number : ℕ) → number ≡ code_of a → number < 2 → (after : List A) → after ≡ numbers
      → (number ≡ (shown_by rest a numbers before).code) × (after ≡ (shown_by rest a numbers before).numbers)
  unfolding shown_by refused
  shown-done e number n h after s = let under = ap (leb 2) (sym n) ∙ lt-leb 2 number h in (rw e n, rw (e, under) s)

-- so an answer and numbers that are a reader's leave what the reader leaves
pub read_left : {A : Type 0} (rest : List ℕ) (a told : Answer) (ns numbers before after : List A) (number : ℕ) → a ≡ told → ns ≡ numbers
    → (number ≡ (shown_by rest a ns before).code) × (after ≡ (shown_by rest a ns before).numbers)
    → (number ≡ (shown_by rest told numbers before).code) × (after ≡ (shown_by rest told numbers before).numbers)
read_left {A} rest a told ns numbers before after number ea en e = (
  e.0 ∙ ap₂ (λ (x : Answer) (xs : List A). (shown_by rest x xs before).code) ea en,
  e.1 ∙ ap₂ (λ (x : Answer) (xs : List A). (shown_by rest x xs before).numbers) ea en,
)

-- the cursor's address has 23 bits
pub address_below : (f : File) → (read_geometry f).cursor.address < 2 ^ 31
unfolding read_geometry cursor_in no_cursor bits
address_below f = by-test (sound f) (λ s. rw s (omega arith)) (λ s. rw s (omega arith))

-- ---- numbers in their ranges are small

ranged-most : (m : Meaning) (n last number : ℕ) → T (in_range m n last number) → number ≤ most m n last
unfolding in_range most
ranged-most (plus k) n last number t = let h = ltb→lt number (k + 2 ^ n) (right (leb k number) (ltb number (k + 2 ^ n)) t) in omega (arith, h)
ranged-most end_of_last n last number t = leb→le number (last + 2 ^ n) (right (ltb last number) (leb number (last + 2 ^ n)) t)

ranged_below : (bound last : ℕ) (ns : List Number) (vs : List ℕ) (j : ℕ) → T (bounded bound last (take j ns)) → T (ranges_from last ns vs)
    → (k : ℕ) → k < j → get_or vs k 0 < suc bound
unfolding ranges_from
ranged_below bound last ns vs zero b t k h = absurd (omega (arith, h))
ranged_below bound last [] [] (suc j) b t k h = omega arith
ranged_below bound last [] (v ∷ vs) (suc j) b t k h = absurd t
ranged_below bound last (n ∷ ns) [] (suc j) b t k h = absurd t
ranged_below bound last (n ∷ ns) (v ∷ vs) (suc j) b t zero h =
    omega (arith, bounded-first bound last n (take j ns) b, ranged-most n.meaning (width n.pieces) last v (left (in_range n.meaning (width n.pieces) last v) (ranges_from v ns vs) t))
ranged_below bound last (n ∷ ns) (v ∷ vs) (suc j) b t (suc k) h =
    ranged_below bound v ns vs j
    (bounded-rest bound last v n (take j ns) (ranged-most n.meaning (width n.pieces) last v (left (in_range n.meaning (width n.pieces) last v) (ranges_from v ns vs) t)) b)
    (right (in_range n.meaning (width n.pieces) last v) (ranges_from v ns vs) t) k (omega (arith, h))

-- all but the screen start
first-bounded : (w : Bool) → T (bounded 65534 0 (take 14 (table w)))
unfolding bounded most width table
first-bounded true = tt
first-bounded false = tt

table_below : (w : Bool) (vs : List ℕ) → T (all_in_range (table w) vs) → (k : ℕ) → k < 14 → get_or vs k 0 < 65535
unfolding all_in_range
table_below w vs t = ranged_below 65534 0 (table w) vs 14 (first-bounded w) t

-- ---- so clipping them changes nothing

small : (n : ℕ) → clipped n < 65535 → clipped n ≡ n
unfolding clipped
small n h = omega (arith, h)

small' : (n : ℕ) → n < 65535 → clipped n < 65535
unfolding clipped
small' n h = omega (arith, h)

clips-small : (j : ℕ) (ns : List ℕ) → ((k : ℕ) → k < j → get_or (clipped_first j ns) k 0 < 65535) → clipped_first j ns ≡ ns
unfolding clipped_first
clips-small zero ns h = refl
clips-small (suc j) [] h = refl
clips-small (suc j) (n ∷ ns) h = ap₂ (λ (x : ℕ) (xs : List ℕ). x ∷ xs) (small n (h 0 (omega arith))) (clips-small j ns (λ k l. h (suc k) (omega (arith, l))))

clips-below : (j : ℕ) (ns : List ℕ) → ((k : ℕ) → k < j → get_or ns k 0 < 65535) → (k : ℕ) → k < j → get_or (clipped_first j ns) k 0 < 65535
unfolding clipped_first
clips-below zero ns h k l = absurd (omega (arith, l))
clips-below (suc j) [] h k l = omega arith
clips-below (suc j) (n ∷ ns) h zero l = small' n (h 0 (omega arith))
clips-below (suc j) (n ∷ ns) h (suc k) l = clips-below j ns (λ k₁ l₁. h (suc k₁) (omega (arith, l₁))) k (omega (arith, l))

module _ (f : File) (numbers : List ℕ) where
  abbrev given : List ℕ
  given = numbers_of (timing_of numbers)

  abbrev kept : List ℕ
  kept = clipped_first 14 given

  -- numbers that are in range as they were given, or as they are clipped, were small
  given-small : T (all_in_range (table (wide f)) given) → kept ≡ given
  given-small t = clips-small 14 given (clips-below 14 given (table_below (wide f) given t))

  kept_small : T (all_in_range (table (wide f)) kept) → kept ≡ given
  kept_small t = clips-small 14 given (table_below (wide f) kept t)

  -- so the writer says and leaves the same
  out_of_range : all_in_range (table (wide f)) kept ≡ false → all_in_range (table (wide f)) given ≡ false
  out_of_range e =
      by-test (all_in_range (table (wide f)) given)
      (λ t. absurd (true≢false (sym t ∙ ap (all_in_range (table (wide f))) (sym (given-small (passes _ t))) ∙ e)))
      (λ n. n)

  pub clipped-written : write_timing f (timing_clipped numbers) ≡ write_timing f (timing_of numbers)
  unfolding timing_clipped timing_of numbers_of clipped_first write_timing timing_answer written_file refused code_of
  clipped-written =
      by-test (all_in_range (table (wide f)) kept)
      (λ t. ap (λ (ns : List ℕ). write_timing f (timing_of ns)) (kept_small (passes _ t)))
      (λ n. rw (n, out_of_range n)
      (by-test (sound f) (λ s. by-test (crtc_locked f) (λ l. rw (s, l)) (λ l. rw (s, l))) (λ s. rw s)))

-- ---- a timing written

-- registers that a writer changed stand in the file that it changed
timing-held : (words bytes : List ℕ) (t : Timing) → held_in (write_timing (held_in words bytes) t).file.registers bytes ≡ (write_timing (held_in words bytes) t).file
unfolding write_timing written_file with_timing with_registers held_in
timing-held words bytes t = by-test (refused (timing_answer (held_in words bytes) t)) (λ r. rw r) (λ r. rw r)

pub timing-unfit : (numbers words bytes : List ℕ) → fits_in bytes ≡ false → TimingLeft numbers words bytes words 12
timing-unfit numbers words bytes e = record { unfit = λ f. (refl, refl); said = λ t. absurd (true≢false (sym t ∙ e)); left = λ t. absurd (true≢false (sym t ∙ e)) }

pub timing-left : (numbers words bytes : List ℕ) → fits_in bytes ≡ true → (f : File) → f ≡ held_in words bytes → (t : Timing) → t ≡ timing_clipped numbers
    → (w : Written) → w ≡ write_timing f t → (number : ℕ) → number ≡ code_of w.answer → TimingLeft numbers words bytes w.file.registers number
timing-left numbers words bytes fit f ef t et w ew number n =
    let same : w ≡ write_timing (held_in words bytes) (timing_of numbers) = ew ∙ ap₂ write_timing ef et ∙ clipped-written (held_in words bytes) numbers in
    record {
      unfit = λ x. absurd (true≢false (sym fit ∙ x));
      said = λ x. n ∙ ap (λ (y : Written). code_of y.answer) same;
      left = λ x. ap (λ (y : Written). held_in y.file.registers bytes) same ∙ timing-held words bytes (timing_of numbers) ∙ refl;
    }
