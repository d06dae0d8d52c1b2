-- A loop that stores a list from a place on: what is left, stored, gives the whole. And what is left of words, colours and flags, one by one.
-- Assumes nothing.
use Prim.Native.Nat.{ℕ, zero, suc, ◌+◌, ◌*◌, ◌/◌, ◌%◌, ◌≤◌, ◌<◌}
use mathlib.Core.Path.{◌≡◌, refl, sym, ap, ◌∙◌, subst}
use mathlib.Core.Bool.{Bool, false}
use mathlib.Core.List.{List, [], ◌∷◌, ◌++◌, append-nil, append_assoc}
use native.Mathlib.Nat.{add-zero, add-suc, suc-add, zero-add}
use native.Mathlib.Numerals.{add-one}
use native.Mathlib.Omega.{arith}
use borrow.Rule.Slice.PartMut.{put_mid}
use lib.ListN.{length, get_or, set, take, drop, length-set, length-append}
use lib.Seq.{sets, sets-eq, drop-cons, drop-drop, drop-length}
use Rattle.file.specs.declared.palette.Colour.{Colour}
use Rattle.image.specs.Bytes.{word_bytes, words_in, colour_bytes, colours_in, flag_byte, is_set, flag_bytes, flags_in}

-- ---- a loop

pub record Filling {A : Type 0} (before : List A) (start : ℕ) (all now : List A) (at : ℕ) (left : List A) : Type 0 where
  pub whole : sets now at left ≡ sets before start all
  pub size : length now ≡ length before

module _ {A : Type 0} {before : List A} {start : ℕ} {all : List A} where
  pub begun : Filling before start all before start all
  begun = record { whole = refl; size = refl }

  -- one element, two, three
  pub one : {now left : List A} {at : ℕ} (v : A) (vs : List A) → Filling before start all now at left → left ≡ v ∷ vs → Filling before start all (set now at v) (at + 1) vs
  one {now} {left} {at} v vs f e =
      record {
        whole = ap (λ (n : ℕ). sets (set now at v) n vs) (add-one at) ∙ sym (ap (sets now at) e) ∙ f.whole;
        size = length-set now at v ∙ f.size;
      }

  pub two : {now left : List A} {at : ℕ} (v w : A) (vs : List A) → Filling before start all now at left → left ≡ v ∷ w ∷ vs → Filling before start all (set (set now at v) (at + 1) w) (at + 2) vs
  two {now} {at = at} v w vs f e =
      let behind : at + 1 + 1 ≡ at + 2 = omega arith in subst (λ (n : ℕ). Filling before start all (set (set now at v) (at + 1) w) n vs) behind (one w vs (one v (w ∷ vs) f e) refl)

  pub three : {now left : List A} {at : ℕ} (v w x : A) (vs : List A) → Filling before start all now at left → left ≡ v ∷ w ∷ x ∷ vs
      → Filling before start all (set (set (set now at v) (at + 1) w) (at + 2) x) (at + 3) vs
  three {now} {at = at} v w x vs f e =
      let behind : at + 2 + 1 ≡ at + 3 = omega arith in
      subst (λ (n : ℕ). Filling before start all (set (set (set now at v) (at + 1) w) (at + 2) x) n vs) behind (one x vs (two v w (x ∷ vs) f e) refl)

  -- the same place by another name
  pub moved : {now left : List A} {at to : ℕ} → at ≡ to → Filling before start all now at left → Filling before start all now to left
  moved {now} {left} e f = subst (λ (n : ℕ). Filling before start all now n left) e f

  -- nothing is left
  pub done : {now left : List A} {at : ℕ} → Filling before start all now at left → left ≡ [] → now ≡ sets before start all
  done {now} {at = at} f e = sym (ap (sets now at) e) ∙ f.whole

-- stored over a list of the same length, a list is what is there
pub all-stored : {A : Type 0} (vs l : List A) → length vs ≡ length l → sets l 0 vs ≡ vs
all-stored {A} vs l e =
    sets-eq vs l 0 (omega (arith, e))
    ∙ ap (λ (n : ℕ). vs ++ drop n l) (zero-add (length vs) ∙ e)
    ∙ ap (λ (xs : List A). vs ++ xs) (drop-length l)
    ∙ append-nil vs

-- a list copied into the place of as many
pub copied : {A : Type 0} (l : List A) (at k : ℕ) (part vs : List A) → at + k ≤ length l → k ≡ length vs → part ≡ vs → put_mid at k l part ≡ sets l at vs
copied l at k part vs room e same =
    rw (same, e, drop-drop (length vs) at l)
    (sym (append_assoc (take at l) vs (drop (at + length vs) l)) ∙ sym (sets-eq vs l at (omega (arith, room, e))))

-- ---- what is left

dropped : {A : Type 0} (l : List A) (k : ℕ) (d : A) → k < length l → drop k l ≡ get_or l k d ∷ drop (k + 1) l
dropped l k d h = drop-cons l k d h ∙ ap (λ (n : ℕ). get_or l k d ∷ drop n l) (sym (add-one k))

pub words_left : (words : List ℕ) (k : ℕ) → k < length words → word_bytes (drop k words) ≡ get_or words k 0 % 256 ∷ get_or words k 0 / 256 ∷ word_bytes (drop (k + 1) words)
unfolding word_bytes
words_left words k h = ap word_bytes (dropped words k 0 h)

pub colours-left : (colours : List Colour) (k : ℕ) (d : Colour) → k < length colours
    → colour_bytes (drop k colours) ≡ (get_or colours k d).red ∷ (get_or colours k d).green ∷ (get_or colours k d).blue ∷ colour_bytes (drop (k + 1) colours)
unfolding colour_bytes
colours-left colours k d h = ap colour_bytes (dropped colours k d h)

pub flags-left : (flags : List Bool) (k : ℕ) → k < length flags → flag_bytes (drop k flags) ≡ flag_byte (get_or flags k false) ∷ flag_bytes (drop (k + 1) flags)
unfolding flag_bytes
flags-left flags k h = ap flag_bytes (dropped flags k false h)

pub bytes_left : (bytes : List ℕ) (k : ℕ) → k < length bytes → drop k bytes ≡ get_or bytes k 0 ∷ drop (k + 1) bytes
bytes_left bytes k h = dropped bytes k 0 h

dropped-two : (l : List ℕ) (k : ℕ) → k + 2 ≤ length l → drop k l ≡ get_or l k 0 ∷ get_or l (k + 1) 0 ∷ drop (k + 2) l
dropped-two l k h =
    let behind : k + 1 + 1 ≡ k + 2 = omega arith in
    dropped l k 0 (omega (arith, h))
    ∙ ap (λ (xs : List ℕ). get_or l k 0 ∷ xs) (dropped l (k + 1) 0 (omega (arith, h)))
    ∙ ap (λ (n : ℕ). get_or l k 0 ∷ get_or l (k + 1) 0 ∷ drop n l) behind

words-read : (bytes : List ℕ) (k : ℕ) → k + 2 ≤ length bytes → words_in (drop k bytes) ≡ (get_or bytes k 0 + 256 * get_or bytes (k + 1) 0) ∷ words_in (drop (k + 2) bytes)
unfolding words_in
words-read bytes k h = ap words_in (dropped-two bytes k h)

colours-read : (bytes : List ℕ) (k : ℕ) → k + 3 ≤ length bytes
    → colours_in (drop k bytes) ≡ record { red = get_or bytes k 0; green = get_or bytes (k + 1) 0; blue = get_or bytes (k + 2) 0 } ∷ colours_in (drop (k + 3) bytes)
unfolding colours_in
colours-read bytes k h =
    let behind : k + 2 + 1 ≡ k + 3 = omega arith in
    ap colours_in
    (dropped-two bytes k (omega (arith, h))
    ∙ ap (λ (xs : List ℕ). get_or bytes k 0 ∷ get_or bytes (k + 1) 0 ∷ xs) (dropped bytes (k + 2) 0 (omega (arith, h)))
    ∙ ap (λ (n : ℕ). get_or bytes k 0 ∷ get_or bytes (k + 1) 0 ∷ get_or bytes (k + 2) 0 ∷ drop n bytes) behind)

-- the same of the words and colours before, by how many they are
pub words-next : (bytes : List ℕ) (i : ℕ) → 2 * i + 2 ≤ length bytes
    → words_in (drop (2 * i) bytes) ≡ (get_or bytes (2 * i) 0 + 256 * get_or bytes (2 * i + 1) 0) ∷ words_in (drop (2 * (i + 1)) bytes)
words-next bytes i h =
    let behind : 2 * i + 2 ≡ 2 * (i + 1) = omega arith in
    words-read bytes (2 * i) h ∙ ap (λ (n : ℕ). (get_or bytes (2 * i) 0 + 256 * get_or bytes (2 * i + 1) 0) ∷ words_in (drop n bytes)) behind

pub colours-next : (bytes : List ℕ) (i : ℕ) → 3 * i + 3 ≤ length bytes
    → colours_in (drop (3 * i) bytes)
    ≡ record { red = get_or bytes (3 * i) 0; green = get_or bytes (3 * i + 1) 0; blue = get_or bytes (3 * i + 2) 0 } ∷ colours_in (drop (3 * (i + 1)) bytes)
colours-next bytes i h =
    let behind : 3 * i + 3 ≡ 3 * (i + 1) = omega arith in
    colours-read bytes (3 * i) h
    ∙ ap (λ (n : ℕ). record { red = get_or bytes (3 * i) 0; green = get_or bytes (3 * i + 1) 0; blue = get_or bytes (3 * i + 2) 0 } ∷ colours_in (drop n bytes)) behind

pub flags-read : (bytes : List ℕ) (k : ℕ) → k < length bytes → flags_in (drop k bytes) ≡ is_set (get_or bytes k 0) ∷ flags_in (drop (k + 1) bytes)
unfolding flags_in
flags-read bytes k h = ap flags_in (dropped bytes k 0 h)

-- ---- how many there are

pub words_count : (words : List ℕ) → length (word_bytes words) ≡ 2 * length words
unfolding word_bytes
words_count [] = refl
words_count (word ∷ words) = omega (arith, words_count words)

pub colours-count : (colours : List Colour) → length (colour_bytes colours) ≡ 3 * length colours
unfolding colour_bytes
colours-count [] = refl
colours-count (c ∷ colours) = omega (arith, colours-count colours)

pub flags-count : (flags : List Bool) → length (flag_bytes flags) ≡ length flags
unfolding flag_bytes
flags-count [] = refl
flags-count (flag ∷ flags) = ap suc (flags-count flags)

pub words-in-count : (n : ℕ) (bytes : List ℕ) → length bytes ≡ 2 * n → length (words_in bytes) ≡ n
unfolding words_in
words-in-count n [] e = omega (arith, e)
words-in-count n (low ∷ []) e = absurd (omega (arith, e))
words-in-count zero (low ∷ high ∷ bytes) e = absurd (omega (arith, e))
words-in-count (suc n) (low ∷ high ∷ bytes) e = ap suc (words-in-count n bytes (omega (arith, e)))

pub colours-in-count : (n : ℕ) (bytes : List ℕ) → length bytes ≡ 3 * n → length (colours_in bytes) ≡ n
unfolding colours_in
colours-in-count n [] e = omega (arith, e)
colours-in-count n (red ∷ []) e = absurd (omega (arith, e))
colours-in-count n (red ∷ green ∷ []) e = absurd (omega (arith, e))
colours-in-count zero (red ∷ green ∷ blue ∷ bytes) e = absurd (omega (arith, e))
colours-in-count (suc n) (red ∷ green ∷ blue ∷ bytes) e = ap suc (colours-in-count n bytes (omega (arith, e)))

pub flags-in-count : (bytes : List ℕ) → length (flags_in bytes) ≡ length bytes
unfolding flags_in
flags-in-count [] = refl
flags-in-count (byte ∷ bytes) = ap suc (flags-in-count bytes)

-- ---- one list behind another

pub stored-behind : {A : Type 0} (l : List A) (at : ℕ) (a b : List A) (n : ℕ) → at + length a ≡ n → sets (sets l at a) n b ≡ sets l at (a ++ b)
stored-behind {A} l at a b n e = ap (λ (k : ℕ). sets (sets l at a) k b) (sym e) ∙ sets-append l at a b
  where
    sets-append : (l : List A) (at : ℕ) (a b : List A) → sets (sets l at a) (at + length a) b ≡ sets l at (a ++ b)
    sets-append l at [] b = rw add-zero
    sets-append l at (x ∷ a) b = rw (add-suc, sym (suc-add at (length a))) (sets-append (set l at x) (suc at) a b)

-- three lists that fill a fourth
pub filled-by : {A : Type 0} (l a b c : List A) (n m : ℕ) → length a ≡ n → n + length b ≡ m → m + length c ≡ length l → sets (sets (sets l 0 a) n b) m c ≡ a ++ b ++ c
filled-by {A} l a b c n m e f g =
    ap (λ (x : List A). sets x m c) (stored-behind l 0 a b n (zero-add (length a) ∙ e))
    ∙ stored-behind l 0 (a ++ b) c m (zero-add (length (a ++ b)) ∙ length-append a b ∙ ap (λ (k : ℕ). k + length b) e ∙ f)
    ∙ all-stored (a ++ b ++ c) l (length-append (a ++ b) c ∙ ap (λ (k : ℕ). k + length c) (length-append a b ∙ ap (λ (k : ℕ). k + length b) e ∙ f) ∙ g)

-- four lists, one behind another
pub stored-four : {A : Type 0} (l a b c d : List A) (n m k : ℕ) → length a ≡ n → n + length b ≡ m → m + length c ≡ k → sets (sets (sets (sets l 0 a) n b) m c) k d ≡ sets l 0 (a ++ b ++ c ++ d)
stored-four {A} l a b c d n m k e f g =
    let two : length (a ++ b) ≡ m = length-append a b ∙ ap (λ (x : ℕ). x + length b) e ∙ f in
    let three : length (a ++ b ++ c) ≡ k = length-append (a ++ b) c ∙ ap (λ (x : ℕ). x + length c) two ∙ g in
    ap (λ (x : List A). sets (sets x m c) k d) (stored-behind l 0 a b n (zero-add (length a) ∙ e))
    ∙ ap (λ (x : List A). sets x k d) (stored-behind l 0 (a ++ b) c m (zero-add (length (a ++ b)) ∙ two))
    ∙ stored-behind l 0 (a ++ b ++ c) d k (zero-add (length (a ++ b ++ c)) ∙ three)

four-count : {A : Type 0} (a b c d : List A) → length (a ++ b ++ c ++ d) ≡ length a + length b + length c + length d
four-count a b c d = length-append (a ++ b ++ c) d ∙ ap (λ (x : ℕ). x + length d) (length-append (a ++ b) c ∙ ap (λ (x : ℕ). x + length c) (length-append a b))

pub filled-by-four : {A : Type 0} (l a b c d : List A) (n m k : ℕ) → length a ≡ n → n + length b ≡ m → m + length c ≡ k → k + length d ≡ length l
    → sets (sets (sets (sets l 0 a) n b) m c) k d ≡ a ++ b ++ c ++ d
filled-by-four l a b c d n m k e f g h = stored-four l a b c d n m k e f g ∙ all-stored (a ++ b ++ c ++ d) l (omega (arith, four-count a b c d, e, f, g, h))
