-- What a summary holds of each register and each code is what the trace did to it. Assumes nothing.
use Prim.Native.Nat.{ℕ, ◌+◌, ◌≤◌, ◌<◌, min}
use mathlib.Core.Bool.{Bool, true, false, cond}
use mathlib.Core.List.{List, [], ◌∷◌}
use mathlib.Core.Path.{◌≡◌, refl, sym, ap, subst, ◌∙◌}
use native.Mathlib.Omega.{arith}
use borrow.Author.Tests.{eqb-false, eqb-true, ltb-false, ltb-true}
use lib.Bits.{bit_or, bit_xor, or_zero_l, or_zero_r, xor_self}
use lib.Dec.{T, eqb, ltb}
use lib.ListN.{get_or, get_or-replicate, length, length-set, set}
use lib.Seq.{get_or-set_other, get_or-set_same}
use Rattle.bits.specs.Store.{bit}
use Rattle.bits.proofs.Bit.{bit-of-zero, bit-or, by_bits}
use Rattle.bits.proofs.Test.{by-test, is_true}
use Rattle.file.specs.declared.effect.Reach.{Reach}
use Rattle.file.specs.declared.registers.File.{File}
use Rattle.file.specs.Answers.{code_of}
use Rattle.file.specs.File.{register}
use Rattle.file.specs.Registers.{register_count}
use Rattle.file.specs.Sound.{sound}
use Rattle.access.specs.declared.record.Record.{Record}
use Rattle.access.specs.declared.record.Item.{Item}
use Rattle.access.specs.declared.record.Item.TheVariants.{Whole, Fragment}
use Rattle.access.specs.Access.{access_item, reach, read_reach}
use Rattle.access.proofs.Reach.{spared}
use Rattle.trace.specs.Run.{file_after}
use Rattle.trace.proofs.RunMore.{item-sound}
use Rattle.explaining.specs.Explained.{reach_in}
use Rattle.explaining.specs.Moves.{numbers_in}
use Rattle.summing.specs.declared.summary.Summary.{Summary}
use Rattle.summing.specs.OneByOne.{moved_in, reaches, reach_to, times_of, writes_to}
use Rattle.summing.specs.Summed.{begun, code_count, coded, most_count, ended, more, moved_bits, reached, summed, taken_all, taken_in}

-- ---- one step

-- one element of a table, after another or the same was changed
at_set : (xs : List ℕ) (op : ℕ → ℕ) (m n : ℕ) → n < length xs → get_or (set xs m (op (get_or xs m 0))) n 0 ≡ cond (eqb m n) (op (get_or xs n 0)) (get_or xs n 0)
at_set xs op m n h =
    by-test (eqb m n) (λ e. rw (e, eqb-true m n e) (get_or-set_same xs n (op (get_or xs n 0)) 0 h))
    (λ e. rw e (get_or-set_other xs m n (op (get_or xs m 0)) 0 (λ q. eqb-false m n e (sym q))))

or_assoc : (a b c : ℕ) → bit_or (bit_or a b) c ≡ bit_or a (bit_or b c)
or_assoc a b c =
    by_bits (bit_or (bit_or a b) c) (bit_or a (bit_or b c))
    (λ i. omega (arith, bit-or i (bit_or a b) c, bit-or i a b, bit-or i a (bit_or b c), bit-or i b c))

-- one more, up to the largest count
one_more : (n : ℕ) → n ≤ most_count → more n ≡ min most_count (n + 1)
unfolding more
one_more n h = by-test (ltb n most_count) (λ e. rw e (omega (arith, ltb-true n most_count e))) (λ e. rw e (omega (arith, ltb-false n most_count e, h)))

-- a register that a record of a sound file doesn't reach reads the same after it
reach-sound : (f : File) (r : Record) → T (sound f) → reach_in f (Whole r) ≡ reach f r
unfolding reach_in read_reach
reach-sound f r s = rw (reach_in, read_reach, is_true (sound f) s) refl

unreached : (f : File) (i : Item) (number : ℕ) → T (sound f) → ((j : ℕ) → number ≡ (reach_in f i).register → bit j (reach_in f i).bits ≡ 0)
    → moved_bits f (access_item f i).file number ≡ 0
unfolding moved_bits reach access_item
unreached f (Whole r) number s h =
    let same = spared f r number (λ j. subst (λ (x : Reach). number ≡ x.register → bit j x.bits ≡ 0) (reach-sound f r s) (h j)) in
    ap (bit_xor (register f number)) same ∙ xor_self (register f number)
unreached f (Fragment r) number s h = xor_self (register f number)

module _ (s : Summary) (f : File) (i : Item) (n : ℕ) where
  writes-step : n < length s.writes → get_or (taken_in s f i).writes n 0 ≡ cond (reaches f i n) (more (get_or s.writes n 0)) (get_or s.writes n 0)
  unfolding taken_in ended coded reached reaches
  writes-step h =
      by-test (eqb (reach_in f i).bits 0) (λ e. rw e refl) (λ e. rw e (at_set s.writes more (reach_in f i).register n h))

  reach_step : n < length s.reaches
      → get_or (taken_in s f i).reaches n 0 ≡ bit_or (get_or s.reaches n 0) (cond (reaches f i n) (reach_in f i).bits 0)
  unfolding taken_in ended coded reached reaches
  reach_step h =
      by-test (eqb (reach_in f i).bits 0) (λ e. rw e (sym (or_zero_r (get_or s.reaches n 0))))
      (λ e. rw e
      (at_set s.reaches (λ (x : ℕ). bit_or x (reach_in f i).bits) (reach_in f i).register n h
      ∙ by-test (eqb (reach_in f i).register n) (λ t. rw t refl) (λ t. rw t (sym (or_zero_r (get_or s.reaches n 0))))))

  moved-step : T (sound f) → n < length s.moved
      → get_or (taken_in s f i).moved n 0 ≡ bit_or (get_or s.moved n 0) (moved_bits f (access_item f i).file n)
  unfolding taken_in ended coded reached
  moved-step sure h =
      by-test (eqb (reach_in f i).bits 0)
      (λ e. rw e
      (sym (ap (bit_or (get_or s.moved n 0)) (unreached f i n sure (λ j q. ap (bit j) (eqb-true (reach_in f i).bits 0 e) ∙ bit-of-zero j)) ∙ or_zero_r (get_or s.moved n 0))))
      (λ e. rw e
      (at_set s.moved (λ (x : ℕ). bit_or x (moved_bits f (access_item f i).file (reach_in f i).register)) (reach_in f i).register n h
      ∙ by-test (eqb (reach_in f i).register n)
      (λ t. rw t (ap (λ (m : ℕ). bit_or (get_or s.moved n 0) (moved_bits f (access_item f i).file m)) (eqb-true (reach_in f i).register n t)))
      (λ t. rw t
      (sym
      (ap (bit_or (get_or s.moved n 0)) (unreached f i n sure (λ j q. absurd (eqb-false (reach_in f i).register n t (sym q)))) ∙ or_zero_r (get_or s.moved n 0))))))

  codes-step : n < length s.codes
      → get_or (taken_in s f i).codes n 0 ≡ cond (eqb (code_of (access_item f i).answer) n) (more (get_or s.codes n 0)) (get_or s.codes n 0)
  unfolding taken_in ended coded reached
  codes-step h =
      by-test (eqb (reach_in f i).bits 0) (λ e. rw e (at_set s.codes more (code_of (access_item f i).answer) n h))
      (λ e. rw e (at_set s.codes more (code_of (access_item f i).answer) n h))

-- the tables stay as long as they are
pub record Sized (s : Summary) : Type 0 where
  pub writes : length s.writes ≡ register_count
  pub reaches : length s.reaches ≡ register_count
  pub moved : length s.moved ≡ register_count
  pub codes : length s.codes ≡ code_count

begun_sized : (f : File) → Sized (begun f)
unfolding begun
begun_sized f = record { writes = refl; reaches = refl; moved = refl; codes = refl }

sized-step : (s : Summary) (f : File) (i : Item) → Sized s → Sized (taken_in s f i)
unfolding taken_in ended coded reached
sized-step s f i h =
    by-test (eqb (reach_in f i).bits 0)
    (λ e. rw e (record { writes = h.writes; reaches = h.reaches; moved = h.moved; codes = length-set s.codes _ _ ∙ h.codes }))
    (λ e. rw e
    (record {
      writes = length-set s.writes _ _ ∙ h.writes;
      reaches = length-set s.reaches _ _ ∙ h.reaches;
      moved = length-set s.moved _ _ ∙ h.moved;
      codes = length-set s.codes _ _ ∙ h.codes;
    }))

-- ---- all of them

-- a count after one that came or didn't, and so many more
count-on : (b : Bool) (x t : ℕ) → x ≤ most_count → min most_count (cond b (more x) x + t) ≡ min most_count (x + (cond b 1 0 + t))
count-on true x t h = rw (one_more x h) (omega arith)
count-on false x t h = omega arith

count_most : (b : Bool) (x : ℕ) → x ≤ most_count → cond b (more x) x ≤ most_count
count_most true x h = rw (one_more x h) (omega arith)
count_most false x h = h

module _ (n : ℕ) where
  writes-from : (s : Summary) (f : File) (items : List Item) → Sized s → n < register_count → get_or s.writes n 0 ≤ most_count
      → get_or (taken_all s f items).writes n 0 ≡ min most_count (get_or s.writes n 0 + writes_to n f items)
  unfolding taken_all writes_to
  writes-from s f [] z h m = omega (arith, m)
  writes-from s f (i ∷ is) z h m =
      let step = writes-step s f i n (omega (arith, h, z.writes)) in
      writes-from (taken_in s f i) (access_item f i).file is (sized-step s f i z) h (rw step (count_most (reaches f i n) (get_or s.writes n 0) m))
      ∙ rw step (count-on (reaches f i n) (get_or s.writes n 0) _ m)

  reach-from : (s : Summary) (f : File) (items : List Item) → Sized s → n < register_count
      → get_or (taken_all s f items).reaches n 0 ≡ bit_or (get_or s.reaches n 0) (reach_to n f items)
  unfolding taken_all reach_to
  reach-from s f [] z h = sym (or_zero_r (get_or s.reaches n 0))
  reach-from s f (i ∷ is) z h =
      reach-from (taken_in s f i) (access_item f i).file is (sized-step s f i z) h
      ∙ rw (reach_step s f i n (omega (arith, h, z.reaches))) (or_assoc (get_or s.reaches n 0) _ _)

  moved-from : (s : Summary) (f : File) (items : List Item) → T (sound f) → Sized s → n < register_count
      → get_or (taken_all s f items).moved n 0 ≡ bit_or (get_or s.moved n 0) (moved_in n f items)
  unfolding taken_all moved_in
  moved-from s f [] sure z h = sym (or_zero_r (get_or s.moved n 0))
  moved-from s f (i ∷ is) sure z h =
      moved-from (taken_in s f i) (access_item f i).file is (item-sound f i sure) (sized-step s f i z) h
      ∙ rw (moved-step s f i n sure (omega (arith, h, z.moved))) (or_assoc (get_or s.moved n 0) _ _)

  codes-from : (s : Summary) (f : File) (items : List Item) → Sized s → n < code_count → get_or s.codes n 0 ≤ most_count
      → get_or (taken_all s f items).codes n 0 ≡ min most_count (get_or s.codes n 0 + times_of n f items)
  unfolding taken_all times_of
  codes-from s f [] z h m = omega (arith, m)
  codes-from s f (i ∷ is) z h m =
      let step = codes-step s f i n (omega (arith, h, z.codes)) in
      codes-from (taken_in s f i) (access_item f i).file is (sized-step s f i z) h (rw step (count_most (eqb (code_of (access_item f i).answer) n) (get_or s.codes n 0) m))
      ∙ rw step (count-on (eqb (code_of (access_item f i).answer) n) (get_or s.codes n 0) _ m)

-- ---- what a summary holds

module _ (f : File) (items : List Item) where
  -- how many writes, as far as the count goes
  pub writes-told : (n : ℕ) → n < register_count → get_or (summed f items).writes n 0 ≡ min most_count (writes_to n f items)
  unfolding summed begun
  writes-told n h =
      let none = get_or-replicate {A = ℕ} register_count n 0 0 h in
      omega (arith, writes-from n (begun f) f items (begun_sized f) h (omega (arith, none)), none)

  -- the union of reaches
  pub reach-told : (n : ℕ) → n < register_count → get_or (summed f items).reaches n 0 ≡ reach_to n f items
  unfolding summed begun
  reach-told n h =
      reach-from n (begun f) f items (begun_sized f) h
      ∙ ap (λ (x : ℕ). bit_or x (reach_to n f items)) (get_or-replicate register_count n 0 0 h)
      ∙ or_zero_l (reach_to n f items)

  -- the bits that ever moved, of a sound file: none moves unseen
  pub moved_told : T (sound f) → (n : ℕ) → n < register_count → get_or (summed f items).moved n 0 ≡ moved_in n f items
  unfolding summed begun
  moved_told sure n h =
      moved-from n (begun f) f items sure (begun_sized f) h
      ∙ ap (λ (x : ℕ). bit_or x (moved_in n f items)) (get_or-replicate register_count n 0 0 h)
      ∙ or_zero_l (moved_in n f items)

  -- how often each code came, as far as the count goes
  pub codes-told : (n : ℕ) → n < code_count → get_or (summed f items).codes n 0 ≡ min most_count (times_of n f items)
  unfolding summed begun
  codes-told n h =
      let none = get_or-replicate {A = ℕ} code_count n 0 0 h in
      omega (arith, codes-from n (begun f) f items (begun_sized f) h (omega (arith, none)), none)

first-from : (s : Summary) (f : File) (items : List Item) → (taken_all s f items).first ≡ s.first
unfolding taken_all taken_in ended coded reached
first-from s f [] = refl
first-from s f (i ∷ is) =
    first-from (taken_in s f i) (access_item f i).file is ∙ by-test (eqb (reach_in f i).bits 0) (λ e. rw e refl) (λ e. rw e refl)

last-from : (s : Summary) (f : File) (items : List Item) → s.last ≡ numbers_in f → (taken_all s f items).last ≡ numbers_in (file_after f items)
unfolding taken_all taken_in ended file_after
last-from s f [] e = e
last-from s f (i ∷ is) e = last-from (taken_in s f i) (access_item f i).file is refl

-- the numbers at the start, and at the end
pub first-told : (f : File) (items : List Item) → (summed f items).first ≡ numbers_in f
unfolding summed begun
first-told f items = first-from (begun f) f items

pub last-told : (f : File) (items : List Item) → (summed f items).last ≡ numbers_in (file_after f items)
unfolding summed begun
last-told f items = last-from (begun f) f items refl
