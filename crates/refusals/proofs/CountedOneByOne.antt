-- Without the table: the count of a code is how many of the records' answers have it, at most 2^64 - 1. Assumes nothing.
use Prim.Native.Nat.{ℕ, ◌+◌, ◌≤◌, ◌<◌, min}
use mathlib.Core.Bool.{Bool, true, false, cond}
use mathlib.Core.List.{List, [], ◌∷◌}
use mathlib.Core.Path.{◌≡◌, refl, sym, ◌∙◌}
use native.Mathlib.Omega.{arith}
use borrow.Author.Tests.{eqb-false, eqb-true, lt-ltb, ltb-false, ltb-true}
use lib.Dec.{eqb, ltb}
use lib.ListN.{get_or, get_or-replicate, length, length-set}
use lib.Seq.{get_or-set_other, get_or-set_same}
use Rattle.bits.proofs.Test.{by-test}
use Rattle.file.specs.declared.registers.File.{File}
use Rattle.file.specs.Answers.{code_of}
use Rattle.access.specs.declared.record.Item.{Item}
use Rattle.access.specs.Access.{access_item}
use Rattle.refusals.specs.declared.codes.Refusals.{Refusals}
use Rattle.refusals.specs.Counted.{answered, code_count, most_count, counted_at, counted_items, counting_of, more, none_counted}

-- one more, up to the largest count
one_more : (n : ℕ) → n ≤ most_count → more n ≡ min (n + 1) most_count
unfolding more
one_more n h = by-test (ltb n most_count) (λ e. rw e (omega (arith, ltb-true n most_count e))) (λ e. rw e (omega (arith, ltb-false n most_count e, h)))

module _ (counts : List ℕ) (long : length counts ≡ code_count) (m : ℕ) where
  -- a table stays as long as it is
  still-long : length (counted_at counts m) ≡ code_count
  unfolding counted_at
  still-long =
      by-test (ltb m code_count) (λ e. rw e (length-set counts m (more (get_or counts m 0)) ∙ long)) (λ e. rw e long)

  -- one count, after a code was counted
  at_code : (n : ℕ) → n < code_count → get_or (counted_at counts m) n 0 ≡ cond (eqb m n) (more (get_or counts n 0)) (get_or counts n 0)
  unfolding counted_at
  at_code n h =
      by-test (eqb m n)
      (λ e. let same = eqb-true m n e in
      rw (e, same, lt-ltb n code_count h) (get_or-set_same counts n (more (get_or counts n 0)) 0 (omega (arith, h, long))))
      (λ e. by-test (ltb m code_count)
      (λ t. rw (e, t) (get_or-set_other counts m n (more (get_or counts m 0)) 0 (λ q. eqb-false m n e (sym q))))
      (λ t. rw (e, t) refl))

-- a count after one that came or didn't, and so many more
count-on : (b : Bool) (x t : ℕ) → x ≤ most_count → min (cond b (more x) x + t) most_count ≡ min (x + (cond b 1 0 + t)) most_count
count-on true x t h = rw (one_more x h) (omega arith)
count-on false x t h = omega arith

count_most : (b : Bool) (x : ℕ) → x ≤ most_count → cond b (more x) x ≤ most_count
count_most true x h = rw (one_more x h) (omega arith)
count_most false x h = h

module _ (n : ℕ) (h : n < code_count) where
  counted-from : (r : Refusals) (f : File) (is : List Item) → length r.counts ≡ code_count → get_or r.counts n 0 ≤ most_count
      → get_or (counted_items r f is).counts n 0 ≡ min (get_or r.counts n 0 + answered n f is) most_count
  unfolding counted_items counting_of answered
  counted-from r f [] long most = omega (arith, most)
  counted-from r f (i ∷ is) long most =
      let code = code_of (access_item f i).answer in
      let step = at_code r.counts long code n h in
      counted-from (counting_of r code) (access_item f i).file is (still-long r.counts long code)
      (rw step (count_most (eqb code n) (get_or r.counts n 0) most))
      ∙ rw step (count-on (eqb code n) (get_or r.counts n 0) _ most)

  -- what the counts of a trace are, from nothing counted on
  pub counted-told : (f : File) (is : List Item) → get_or (counted_items none_counted f is).counts n 0 ≡ min (answered n f is) most_count
  unfolding none_counted
  counted-told f is =
      let none = get_or-replicate {A = ℕ} code_count n 0 0 h in
      omega (arith, counted-from none_counted f is refl (omega (arith, none)), none)
