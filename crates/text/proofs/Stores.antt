-- Text stored byte by byte: one after the other, and from the back. Assumes nothing.
use Prim.Native.Nat.{ℕ, suc, ◌+◌, ◌≤◌, ◌<◌}
use mathlib.Core.Path.{◌≡◌, refl, sym, ap, ◌∙◌}
use mathlib.Core.Bool.{Bool, true, false}
use mathlib.Core.List.{List, [], ◌∷◌, ◌++◌, append_assoc}
use native.Mathlib.Nat.{add-zero, add-suc, suc-add, add_assoc}
use native.Mathlib.Numerals.{add-one}
use native.Mathlib.Omega.{arith}
use lib.ListN.{length, set, take, drop, get_or, length-append}
use borrow.Author.Tests.{le-leb, leb-true}
use lib.Dec.{leb}
use lib.Seq.{sets, sets-eq, set_comm, drop-cons, drop-drop}
use borrow.Rule.Slice.PartMut.{put_mid}
use Rattle.file.specs.declared.answer.Answer.{Answer}
use Rattle.file.specs.declared.answer.Answer.TheVariants.{Done, ShortBuffer}
use Rattle.file.specs.Answers.{code_of, refused}
use Rattle.text.specs.declared.placed.Placed.{Placed}
use Rattle.text.specs.Lent.{Lined, Wrote, behind_by, fits, placed_by, room_answer}

-- one text behind another
sets-append : (l : List ℕ) (at : ℕ) (a b : List ℕ) → sets l at (a ++ b) ≡ sets (sets l at a) (at + length a) b
sets-append l at [] b = rw add-zero
sets-append l at (x ∷ a) b = sets-append (set l at x) (suc at) a b ∙ rw (suc-add, add-suc)

-- a text's last byte may be stored first
pub sets_last : (l : List ℕ) (at : ℕ) (a : List ℕ) (x : ℕ) → sets l at (a ++ (x ∷ [])) ≡ sets (set l (at + length a) x) at a
sets_last l at [] x = rw add-zero
sets_last l at (y ∷ a) x =
    sets_last (set l at y) (suc at) a x
    ∙ ap (λ (m : List ℕ). sets m (suc at) a) (rw (suc-add, add-suc) (set_comm l at (suc (at + length a)) y x (λ e. omega arith)))

module _ {before : List ℕ} {at : ℕ} {a b middle after : List ℕ} {p q : ℕ} where
  -- a text, and then another
  pub then-text : Wrote before at a middle p → Wrote middle p b after q → Wrote before at (a ++ b) after q
  then-text v w =
      record {
        bytes = cc (v.bytes, v.place, w.bytes, sets-append before at a b);
        place = w.place ∙ rw (v.place, length-append) (add_assoc at (length a) (length b));
      }

-- a byte
pub one_byte : (l : List ℕ) (at x : ℕ) → Wrote l at (x ∷ []) (set l at x) (at + 1)
one_byte l at x = record { bytes = refl; place = refl }

module _ (buffer : List ℕ) (at : ℕ) (text : List ℕ) {answer : Answer} where
  -- a text that is refused: the buffer and the place are as they were
  pub unplaced : (a : Answer) → answer ≡ a → refused a ≡ true → Lined answer at text buffer buffer (record { answer = a; end = at })
  unfolding placed_by behind_by
  unplaced a e n = record { answered = sym e; ended = rw (e, n) refl; bytes = rw (e, n) refl }

  -- one that isn't, and that has room: what was stored is the text at its place
  pub whole : {after : List ℕ} {end : ℕ} → answer ≡ Done 0 → at + length text ≤ length buffer → Wrote buffer at text after end
      → Lined answer at text buffer after (record { answer = Done 0; end = end })
  unfolding placed_by behind_by refused code_of
  whole e h w = record { answered = sym e; ended = rw e w.place; bytes = rw e (w.bytes ∙ sets-eq text buffer at h) }

  -- and back: what such a text left is what was stored
  pub wrote : {after : List ℕ} {r : Placed} → answer ≡ Done 0 → at + length text ≤ length buffer → Lined answer at text buffer after r
      → Wrote buffer at text after r.end
  unfolding placed_by behind_by refused code_of
  wrote e h l = record { bytes = rw e at l.bytes ∙ sym (sets-eq text buffer at h); place = rw e at l.ended }

module _ (buffer : List ℕ) (at : ℕ) (text : List ℕ) {size : ℕ} (long : size ≡ length text) where
  room-test : {b : Bool} → leb (at + size) (length buffer) ≡ b → fits buffer at text ≡ b
  unfolding fits
  room-test e = ap (λ (n : ℕ). leb (at + n) (length buffer)) (sym long) ∙ e

  -- the same where room is all that is asked for, by how long the text is
  pub no_room : leb (at + size) (length buffer) ≡ false
      → Lined (room_answer buffer at text) at text buffer buffer (record { answer = ShortBuffer; end = at })
  unfolding room_answer refused code_of
  no_room e = unplaced buffer at text ShortBuffer (rw (room-test e) refl) refl

  pub room : {after : List ℕ} {end : ℕ} → leb (at + size) (length buffer) ≡ true → Wrote buffer at text after end
      → Lined (room_answer buffer at text) at text buffer after (record { answer = Done 0; end = end })
  unfolding room_answer
  room e w = whole buffer at text (rw (room-test e) refl) (omega (arith, leb-true (at + size) (length buffer) e, long)) w

-- and back: what was asked for was stored, since it had room
pub had-room : {buffer : List ℕ} {at : ℕ} {text after : List ℕ} {r : Placed} → at + length text ≤ length buffer
    → Lined (room_answer buffer at text) at text buffer after r → Wrote buffer at text after r.end
unfolding room_answer fits
had-room {buffer} {at} {text} h l = wrote buffer at text (rw (le-leb (at + length text) (length buffer) h) refl) h l

-- what is left of a text, stored behind its beginning
pub rest-stored : {before : List ℕ} {at : ℕ} {a after : List ℕ} {p : ℕ} (rest : List ℕ)
    → Wrote before at a after p → sets after p rest ≡ sets before at (a ++ rest)
rest-stored {before} {at} {a} rest w = cc (w.bytes, w.place, sets-append before at a rest)

-- a text that was copied
pub copy-wrote : (buffer text : List ℕ) (at : ℕ) → at + length text ≤ length buffer → (mid : List ℕ) (n : ℕ) → n ≡ length text → mid ≡ text
    → Wrote buffer at text (put_mid at n buffer mid) (at + length text)
copy-wrote buffer text at room mid n e same =
    record {
      bytes =
          rw (e, same, drop-drop (length text) at buffer)
          (sym (append_assoc (take at buffer) text (drop (at + length text) buffer)) ∙ sym (sets-eq text buffer at room));
      place = refl;
    }

-- a byte of a text, copied
pub copy-byte : (l : List ℕ) (at i : ℕ) (text : List ℕ) → i < length text
    → sets (set l (at + i) (get_or text i 0)) (at + (i + 1)) (drop (i + 1) text) ≡ sets l (at + i) (drop i text)
copy-byte l at i text h = rw (drop-cons text i 0 h, add-one, add-suc)
