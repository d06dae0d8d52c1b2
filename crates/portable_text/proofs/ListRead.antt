-- Read byte by byte, a text is a list of fourteen numbers exactly where its parts are, and the numbers are theirs. Assumes nothing.
use Rattle.std.specs.Prelude.{Option, Some, None}
use Rattle.std.specs.Option.{option_and_then, unwrap_or}
use Prim.Native.Nat.{ℕ, zero, suc, ◌+◌, ◌-◌, ◌*◌, ◌%◌, ◌≤◌, ◌<◌, min}
use mathlib.Core.Path.{◌≡◌, refl, sym, ap, ◌∙◌, fun_ext}
use mathlib.Core.Bool.{Bool, true, false, ◌&&◌}
use mathlib.Core.List.{List, [], ◌∷◌, ◌++◌, map, map-append, append-nil}
use native.Mathlib.Nat.{mod-eq_of_lt}
use native.Mathlib.Numerals.{add-one}
use native.Mathlib.Omega.{arith}
use borrow.Author.Tests.{eqb-true, eqb-false, eq-eqb, ne_eqb, lt-ltb, le-ltb, ltb-true, ltb-false}
use lib.Dec.{eqb, ltb}
use lib.ListN.{length, length-append, length-drop, length-map, drop, drop_of_length-le, get_or, replicate, set}
use lib.Seq.{append_snoc, drop-cons, set-append_seam}
use Rattle.bits.proofs.Test.{by-test}
use Rattle.modes.specs.Form.{digit, every, value_from, value_of}
use Rattle.modes.proofs.Tokens.{value-append}
use Rattle.portable.specs.declared.Timing.{Timing}
use Rattle.portable.specs.Timing.{timing_by, timing_of}
use Rattle.portable_text.specs.declared.listing.Scan.{Scan}
use Rattle.portable_text.specs.Numbers.{parts_from, parts, number, is_list, held_of, listed_by, listed_in}
use Rattle.portable_text.specs.Scan.{begun, with_digit, with_space, spaced_behind, stepped, scanned, ended, ended_behind}

and-false : (b : Bool) → (b && false) ≡ false
and-false true = refl
and-false false = refl

-- a test of all elements, of one list behind another
every_append : {A : Type 0} (test : A → Bool) (xs ys : List A) → every test (xs ++ ys) ≡ (every test xs && every test ys)
unfolding every
every_append test [] ys = refl
every_append test (x ∷ xs) ys = by-test (test x) (λ e. rw e (every_append test xs ys)) (λ e. rw e)

-- where the second fails it, so do both
every-not : {A : Type 0} (test : A → Bool) (xs ys : List A) → every test ys ≡ false → every test (xs ++ ys) ≡ false
every-not test xs ys e = every_append test xs ys ∙ ap (λ (b : Bool). every test xs && b) e ∙ and-false (every test xs)

-- a part with a byte more
value-more : (part : List ℕ) (b : ℕ) → held_of (part ++ b ∷ []) ≡ min (10 * held_of part + (b - 0x30)) 65535
unfolding held_of value_of value_from
value-more part b = rw (value-append 0 part (b ∷ [])) (omega arith)

-- No list: a byte that is neither digit nor space is in a part for good, an empty part is no number, and fifteen parts are too many.

no-digits : (part : List ℕ) (more : List (List ℕ)) → every digit part ≡ false → every number (part ∷ more) ≡ false
unfolding every number
no-digits part more e = rw (e, and-false (ltb 0 (length part)))

no_byte : (part : List ℕ) (more : List (List ℕ)) → ltb 0 (length part) ≡ false → every number (part ∷ more) ≡ false
unfolding every number
no_byte part more e = rw e

odd-stays : (part text : List ℕ) → every digit part ≡ false → every number (parts_from part text) ≡ false
unfolding parts_from
odd-stays part [] e = no-digits part [] e
odd-stays part (b ∷ text) e =
    by-test (eqb b 0x20)
    (λ h. rw h (no-digits part (parts_from [] text) e))
    (λ h. rw h (odd-stays (part ++ b ∷ []) text (every_append digit part (b ∷ []) ∙ ap (λ (x : Bool). x && every digit (b ∷ [])) e)))

some-part : (part text : List ℕ) → 1 ≤ length (parts_from part text)
unfolding parts_from
some-part part [] = omega arith
some-part part (b ∷ text) = by-test (eqb b 0x20) (λ h. rw h (omega arith)) (λ h. rw h (some-part (part ++ b ∷ []) text))

none-by-part : (ps : List (List ℕ)) → every number ps ≡ false → listed_by ps ≡ None
unfolding listed_by is_list
none-by-part ps e = rw (e, and-false (eqb (length ps) 14))

none-by-count : (ps : List (List ℕ)) → (length ps ≡ 14 → ⊥) → listed_by ps ≡ None
unfolding listed_by is_list
none-by-count ps n = rw (ne_eqb (length ps) 14 n)

-- A scan, and behind it a text and its end.

abbrev whole : Scan → List ℕ → Option Timing
whole s text = option_and_then ended (scanned s text)

module _ (s : Scan) (b : ℕ) (text : List ℕ) where
  whole-none : stepped s b ≡ None → whole s (b ∷ text) ≡ None
  unfolding scanned
  whole-none e = rw e

  whole-some : (x : Scan) → stepped s b ≡ Some x → whole s (b ∷ text) ≡ whole x text
  unfolding scanned
  whole-some x e = rw e

-- the number at hand, if it has a digit
unfoldable held_at : List ℕ → Option ℕ
held_at [] = None
held_at (b ∷ part) = Some (held_of (b ∷ part))

held_none : (part : List ℕ) → ltb 0 (length part) ≡ false → held_at part ≡ None
unfolding held_at
held_none [] e = refl
held_none (b ∷ part) e = absurd (omega (arith, ltb-false 0 (length (b ∷ part)) e))

held_some : (part : List ℕ) → ltb 0 (length part) ≡ true → held_at part ≡ Some (held_of part)
unfolding held_at
held_some [] e = absurd (omega (arith, ltb-true 0 0 e))
held_some (b ∷ part) e = refl

held_first : (part : List ℕ) → unwrap_or (held_at part) 0 ≡ held_of part
unfolding held_at held_of value_of value_from
held_first [] = refl
held_first (b ∷ part) = refl

-- numbers that are held have 16 bits
held_below : (ps : List (List ℕ)) (k : ℕ) → get_or (map held_of ps) k 0 < 65536
unfolding held_of
held_below [] k = omega arith
held_below (p ∷ ps) zero = omega arith
held_below (p ∷ ps) (suc k) = held_below ps k

in-bits : (ps : List (List ℕ)) → timing_by (λ (k : ℕ). get_or (map held_of ps) k 0 % 65536) ≡ timing_of (map held_of ps)
unfolding timing_of
in-bits ps = ap timing_by (fun_ext (λ k. mod-eq_of_lt (held_below ps k)))

-- A scan that has the numbers of the parts that ended, and a part at hand.
record Reading (done : List (List ℕ)) (part : List ℕ) (s : Scan) : Type 0 where
  count : s.count ≡ length done
  few : length done ≤ 13
  formed : every number done ≡ true
  digits : every digit part ≡ true
  value : s.value ≡ held_at part
  left : List ℕ
  numbers : s.numbers ≡ map held_of done ++ left
  room : length done + length left ≡ 14

-- the next number in its place
put_next : (xs left : List ℕ) (n v : ℕ) → n ≡ length xs → 1 ≤ length left → set (xs ++ left) n v ≡ (xs ++ v ∷ []) ++ drop 1 left
put_next xs [] n v e h = absurd (omega (arith, h))
put_next xs (y ∷ ys) n v e h = ap (λ (k : ℕ). set (xs ++ y ∷ ys) k v) e ∙ set-append_seam xs y ys v ∙ sym (append_snoc xs v ys)

module _ (done : List (List ℕ)) (part : List ℕ) (s : Scan) (r : Reading done part s) where
  put-part : (n : ℕ) → n ≡ length done → set s.numbers n (held_of part) ≡ map held_of (done ++ part ∷ []) ++ drop 1 r.left
  put-part n e =
      rw r.numbers
      (put_next (map held_of done) r.left n (held_of part) (e ∙ sym (length-map done held_of)) (omega (arith, r.room, r.few))
      ∙ ap (λ (xs : List ℕ). xs ++ drop 1 r.left) (sym (map-append held_of done (part ∷ []))))

  all-formed : ltb 0 (length part) ≡ true → every number (done ++ part ∷ []) ≡ true
  unfolding every number
  all-formed h = every_append number done (part ∷ []) ∙ rw (r.formed, h, r.digits)

  count-more : length (done ++ part ∷ []) ≡ length done + 1
  count-more = length-append done (part ∷ [])

  -- a digit
  with-digit : (b : ℕ) → digit b ≡ true → Reading done (part ++ b ∷ []) (with_digit s b)
  unfolding with_digit every
  with-digit b h =
      record {
        count = r.count;
        few = r.few;
        formed = r.formed;
        digits = every_append digit part (b ∷ []) ∙ rw (r.digits, h);
        value =
            rw (r.value, held_first part)
            (ap Some (sym (value-more part b))
            ∙ sym (held_some (part ++ b ∷ []) (lt-ltb 0 (length (part ++ b ∷ [])) (omega (arith, length-append part (b ∷ []))))));
        left = r.left;
        numbers = r.numbers;
        room = r.room;
      }

  -- a space behind a number that is not the fourteenth
  behind : Scan
  behind = record { count = s.count + 1; value = None; numbers = set s.numbers s.count (held_of part) }

  with-space : ltb 0 (length part) ≡ true → length done < 13 → with_space s ≡ Some behind
  unfolding with_space spaced_behind behind
  with-space h k = rw (r.value, held_some part h, r.count, lt-ltb (length done) 13 k)

  spaced : ltb 0 (length part) ≡ true → length done < 13 → Reading (done ++ part ∷ []) [] behind
  unfolding behind held_at every
  spaced h k =
      record {
        count = ap (λ (n : ℕ). n + 1) r.count ∙ sym count-more;
        few = omega (arith, count-more, k);
        formed = all-formed h;
        digits = refl;
        value = refl;
        left = drop 1 r.left;
        numbers = put-part s.count r.count;
        room = omega (arith, count-more, length-drop 1 r.left, r.room, k);
      }

  -- and one that ends no number, or the fourteenth
  space-none : ltb 0 (length part) ≡ false → with_space s ≡ None
  unfolding with_space
  space-none h = rw (r.value, held_none part h)

  space-last : 13 ≤ length done → with_space s ≡ None
  unfolding with_space spaced_behind
  space-last k =
      by-test (ltb 0 (length part)) (λ h. rw (r.value, held_some part h, r.count, le-ltb (length done) 13 k)) (λ h. rw (r.value, held_none part h))

  -- the end of the text
  end_empty : ltb 0 (length part) ≡ false → ended s ≡ listed_by (done ++ part ∷ [])
  unfolding ended
  end_empty h =
      rw (r.value, held_none part h) (sym (none-by-part (done ++ part ∷ []) (every-not number done (part ∷ []) (no_byte part [] h))))

  end-early : ltb 0 (length part) ≡ true → eqb (length done) 13 ≡ false → ended s ≡ listed_by (done ++ part ∷ [])
  unfolding ended ended_behind
  end-early h k =
      rw (r.value, held_some part h, r.count, k)
      (sym (none-by-count (done ++ part ∷ []) (λ e. absurd (eqb-false (length done) 13 k (omega (arith, e, count-more))))))

  end-full : ltb 0 (length part) ≡ true → eqb (length done) 13 ≡ true → ended s ≡ listed_by (done ++ part ∷ [])
  unfolding ended ended_behind listed_by is_list
  end-full h k =
      rw (r.value, held_some part h, r.count, k, all-formed h, eq-eqb (length (done ++ part ∷ [])) 14 (omega (arith, count-more, eqb-true (length done) 13 k)))
      (ap Some
      (ap (λ (ns : List ℕ). timing_by (λ (j : ℕ). get_or ns j 0 % 65536)) all-put ∙ in-bits (done ++ part ∷ [])))
    where
      all-put : set s.numbers 13 (held_of part) ≡ map held_of (done ++ part ∷ [])
      all-put =
          put-part 13 (sym (eqb-true (length done) 13 k))
          ∙ ap (λ (xs : List ℕ). map held_of (done ++ part ∷ []) ++ xs) (drop_of_length-le r.left {i = 1} (omega (arith, r.room, eqb-true (length done) 13 k)))
          ∙ append-nil (map held_of (done ++ part ∷ []))

  at-end : ended s ≡ listed_by (done ++ part ∷ [])
  at-end = by-test (ltb 0 (length part)) (λ h. by-test (eqb (length done) 13) (end-full h) (end-early h)) end_empty

-- a byte further
module _ (s : Scan) (b : ℕ) where
  step-space : eqb b 0x20 ≡ true → stepped s b ≡ with_space s
  unfolding stepped
  step-space h = rw h

  step-digit : eqb b 0x20 ≡ false → digit b ≡ true → stepped s b ≡ Some (with_digit s b)
  unfolding stepped
  step-digit h g = rw (h, g)

  step-odd : eqb b 0x20 ≡ false → digit b ≡ false → stepped s b ≡ None
  unfolding stepped
  step-odd h g = rw (h, g)

-- behind a byte that begins no list there is none
module _ (done : List (List ℕ)) (part text : List ℕ) where
  none_empty : ltb 0 (length part) ≡ false → None ≡ listed_by (done ++ part ∷ parts_from [] text)
  none_empty h =
      sym (none-by-part (done ++ part ∷ parts_from [] text) (every-not number done (part ∷ parts_from [] text) (no_byte part (parts_from [] text) h)))

  none-full : 13 ≤ length done → None ≡ listed_by (done ++ part ∷ parts_from [] text)
  none-full k =
      sym (none-by-count (done ++ part ∷ parts_from [] text)
      (λ e. absurd (omega (arith, e, length-append done (part ∷ parts_from [] text), some-part [] text, k))))

  none-odd : (b : ℕ) → digit b ≡ false → None ≡ listed_by (done ++ parts_from (part ++ b ∷ []) text)
  unfolding every
  none-odd b g =
      sym (none-by-part (done ++ parts_from (part ++ b ∷ []) text)
      (every-not number done (parts_from (part ++ b ∷ []) text) (odd-stays (part ++ b ∷ []) text (every-not digit part (b ∷ []) (rw g)))))

read-on : (text : List ℕ) (done : List (List ℕ)) (part : List ℕ) (s : Scan) → Reading done part s
    → whole s text ≡ listed_by (done ++ parts_from part text)
unfolding scanned parts_from
read-on [] done part s r = at-end done part s r
read-on (b ∷ text) done part s r =
    by-test (eqb b 0x20)
    (λ h. rw h
    (by-test (ltb 0 (length part))
    (λ g. by-test (ltb (length done) 13)
    (λ k. let few = ltb-true (length done) 13 k in
    whole-some s b text (behind done part s r) (step-space s b h ∙ with-space done part s r g few)
    ∙ read-on text (done ++ part ∷ []) [] (behind done part s r) (spaced done part s r g few)
    ∙ ap listed_by (append_snoc done part (parts_from [] text)))
    (λ k. let full = ltb-false (length done) 13 k in whole-none s b text (step-space s b h ∙ space-last done part s r full) ∙ none-full done part text full))
    (λ g. whole-none s b text (step-space s b h ∙ space-none done part s r g) ∙ none_empty done part text g)))
    (λ h. rw h
    (by-test (digit b)
    (λ g. whole-some s b text (with_digit s b) (step-digit s b h g) ∙ read-on text done (part ++ b ∷ []) (with_digit s b) (with-digit done part s r b g))
    (λ g. whole-none s b text (step-odd s b h g) ∙ none-odd done part text b g)))

-- the whole text
pub list_read : (text : List ℕ) → option_and_then ended (scanned begun text) ≡ listed_in text
unfolding begun listed_in parts held_at every
list_read text =
    read-on text [] [] begun
    (record { count = refl; few = omega arith; formed = refl; digits = refl; value = refl; left = replicate 14 0; numbers = refl; room = refl })

-- The same by places of a text: what the code's loop has.

module _ (text : List ℕ) (s : Scan) (i : ℕ) where
  pub scanned-next : (x : Scan) → i < length text → stepped s (get_or text i 0) ≡ Some x → scanned s (drop i text) ≡ scanned x (drop (i + 1) text)
  unfolding scanned
  scanned-next x h e = rw (drop-cons text i 0 h, e, add-one)

  pub scanned-none : i < length text → stepped s (get_or text i 0) ≡ None → scanned s (drop i text) ≡ None
  unfolding scanned
  scanned-none h e = rw (drop-cons text i 0 h, e)

  pub scanned-last : length text ≤ i → scanned s (drop i text) ≡ Some s
  unfolding scanned
  scanned-last h = rw (drop_of_length-le text {i = i} h)
