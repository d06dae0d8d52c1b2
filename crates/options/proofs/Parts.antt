-- A part of the words: the bytes that there are, its name, and its end. Assumes nothing.
use Prim.Native.Nat.{ℕ, zero, suc, ◌+◌, ◌-◌, ◌≤◌, ◌<◌, min}
use mathlib.Core.List.{List, [], ◌∷◌}
use mathlib.Core.Path.{◌≡◌, refl, sym, ◌∙◌}
use native.Mathlib.Numerals.{add-one}
use native.Mathlib.Omega.{arith}
use borrow.Author.Tests.{eq-eqb, ne_eqb, leb-true, leb-false, ltb-true, ltb-false}
use lib.Dec.{eqb, leb, ltb}
use Rattle.std.proofs.Common.{cond, Some, None}
use Rattle.std.specs.List.{position, position_or_len}
use Rattle.std.specs.Option.{unwrap_or}
use lib.ListN.{length, take, drop, get_or, length-take, length-drop, drop_of_length-le}
use lib.Seq.{drop-cons, take_all}
use Rattle.bits.proofs.Test.{by-test}
use Rattle.options.specs.declared.types.Span.{Span}
use Rattle.options.specs.Words.{name_in, part}

-- nothing is taken of nothing, nor where nothing is taken
none-taken : (n : ℕ) (words : List ℕ) (start : ℕ) → length words ≤ start → take n (drop start words) ≡ []
none-taken zero words start h = refl
none-taken (suc n) words start h = rw (drop_of_length-le words h)

-- what is taken up to the end or beyond it
all-taken : (m n : ℕ) (words : List ℕ) (start : ℕ) → length words ≤ start + m → length words ≤ start + n
    → take m (drop start words) ≡ take n (drop start words)
all-taken m n words start h k =
    take_all m (drop start words) (omega (arith, h, length-drop start words)) ∙ sym (take_all n (drop start words) (omega (arith, k, length-drop start words)))

-- from a start to an end that are both within, where they weren't
pub clipped : (words : List ℕ) (start end from to : ℕ) → to ≡ min end (length words) → from ≡ min start to
    → take (to - from) (drop from words) ≡ take (end - start) (drop start words)
clipped words start end from to e f =
    by-test (ltb start to)
    (λ t.
    let inside = ltb-true start to t in
    let same_start : from ≡ start = omega (arith, f, inside) in
    rw same_start
    (by-test (leb end (length words))
    (λ u. let same_end : to ≡ end = omega (arith, e, leb-true end (length words) u) in rw same_end refl)
    (λ u.
    let last : to ≡ length words = omega (arith, e, leb-false end (length words) u) in
    all-taken (to - start) (end - start) words start (omega (arith, last, inside)) (omega (arith, last, inside, leb-false end (length words) u)))))
    (λ t.
    let outside = ltb-false start to t in
    let none : to - from ≡ 0 = omega (arith, f, outside) in
    rw none
    (by-test (leb end start)
    (λ u. let nothing : end - start ≡ 0 = omega (arith, leb-true end start u) in rw nothing refl)
    (λ u. sym (none-taken (end - start) words start (omega (arith, e, outside, leb-false end start u))))))

-- ---- a name

name-short : (word : List ℕ) → length (name_in word) ≤ length word
unfolding name_in
name-short [] = omega arith
name-short (b ∷ bs) = by-test (eqb b 0x3D) (λ e. rw e (omega arith)) (λ e. rw e (omega (arith, name-short bs)))

-- it ends before the first '=', or at the end of the word
sign-at : (word : List ℕ) → position_or_len (λ b. eqb b 0x3D) word ≡ length (name_in word)
unfolding name_in
sign-at [] = refl
sign-at (b ∷ word) = by-test (eqb b 0x3D) (λ e. rw e refl) (λ e. rw e (omega (arith, sign-at word)))

first-or-all : (k n : ℕ) → k ≤ n → unwrap_or (cond (ltb k n) (Some k) None) n ≡ k
first-or-all k n h = by-test (ltb k n) (λ t. rw t refl) (λ t. rw t (omega (arith, h, ltb-false k n t)))

pub name-ends : (word : List ℕ) → unwrap_or (position (λ b. eqb b 0x3D) word) (length word) ≡ length (name_in word)
name-ends word =
    first-or-all (position_or_len (λ b. eqb b 0x3D) word) (length word) (omega (arith, sign-at word, name-short word)) ∙ sign-at word

-- it is within the word, and within the words
pub name-within : (words : List ℕ) (s : Span) → length (name_in (part words s)) ≤ min (s.end - s.start) (length words - s.start)
unfolding part
name-within words s =
    omega (
      arith,
      name-short (take (s.end - s.start) (drop s.start words)),
      length-take (s.end - s.start) (drop s.start words),
      length-drop s.start words,
    )
