-- Bytes that are put into a buffer from a place on, one by one and all at once. Assumes nothing.
use Prim.Native.Nat.{ℕ, suc, ◌+◌, ◌≤◌, ◌<◌}
use mathlib.Core.Path.{◌≡◌, refl, sym, ap, ◌∙◌}
use mathlib.Core.List.{List, [], ◌∷◌, ◌++◌, append-nil}
use native.Mathlib.Nat.{add-zero, add-suc, suc-add}
use native.Mathlib.Numerals.{add-one}
use native.Mathlib.Omega.{arith}
use lib.ListN.{length, get_or, set, take, drop, length-append, take-append-drop, drop_of_length-le}
use lib.Seq.{sets, sets-eq, length-sets, drop-cons}
use Rattle.hex_text.specs.declared.state.HexText.{HexText}
use Rattle.hex_text.specs.declared.state.Stand.{Stand}
use Rattle.hex_text.specs.declared.state.Stand.TheVariants.{Between, Digit, Byte, ByteReturn, Return, Comment, Bad}
use Rattle.hex_text.specs.Machine.{after, told, stepped, given_by, ends_word}
use Rattle.hex_text.specs.Promises.{PartRead, Stored}
use Rattle.bits.proofs.Test.{by-test}
use lib.Dec.{eqb}

-- a list stored after another
pub stored-after : {A : Type 0} (l : List A) (at : ℕ) (a b : List A) → sets (sets l at a) (at + length a) b ≡ sets l at (a ++ b)
stored-after l at [] b = rw add-zero
stored-after l at (x ∷ a) b = rw (add-suc, sym (suc-add at (length a))) (stored-after (set l at x) (suc at) a b)

-- what is stored, with what stands before and after it
pub stored-whole : (l bytes : List ℕ) (at end : ℕ) → end ≡ at + length bytes → at + length bytes ≤ length l
    → sets l at bytes ≡ take at l ++ bytes ++ drop end l
stored-whole l bytes at end e h = sets-eq bytes l at h ∙ ap (λ (n : ℕ). take at l ++ bytes ++ drop n l) (sym e)

-- nothing is stored
pub stored-none : (l : List ℕ) (at end : ℕ) → end ≡ at + 0 → l ≡ take at l ++ [] ++ drop end l
stored-none l at end e =
    sym (take-append-drop at l)
    ∙ ap (λ (n : ℕ). take at l ++ drop n l) (sym (e ∙ add-zero at))
    ∙ ap (λ (xs : List ℕ). xs ++ drop end l) (sym (append-nil (take at l)))

-- a byte gives at most one
pub given-one : (at : Stand) (b : ℕ) → length (given_by at b) ≤ 1
unfolding given_by
given-one Between b = omega arith
given-one (Digit high) b = omega arith
given-one (Byte value) b = by-test (ends_word b) (λ e. rw e (omega arith)) (λ e. rw e (omega arith))
given-one (ByteReturn value) b = by-test (eqb b 0x0A) (λ e. rw e (omega arith)) (λ e. rw e (omega arith))
given-one Return b = omega arith
given-one Comment b = omega arith
given-one Bad b = omega arith

pub told-within : (s : HexText) (text : List ℕ) → length (told s text) ≤ length text
unfolding told
told-within s [] = omega arith
told-within s (b ∷ text) =
    omega (arith, length-append (given_by s.stand b) (told (stepped s b) text), given-one s.stand b, told-within (stepped s b) text)

-- what is left of a list has an element first
pub left-from : (l : List ℕ) (i : ℕ) → i < length l → drop i l ≡ get_or l i 0 ∷ drop (i + 1) l
left-from l i h = drop-cons l i 0 h ∙ ap (λ (n : ℕ). get_or l i 0 ∷ drop n l) (sym (add-one i))

-- A part that is read up to a byte: what is left, read, gives the whole.
pub record Reading (before : HexText) (part buffer₀ : List ℕ) (at : ℕ) (buffer : List ℕ) (text : HexText) (end i : ℕ) : Type 0 where
  pub become : after text (drop i part) ≡ after before part
  pub stored : sets buffer end (told text (drop i part)) ≡ sets buffer₀ at (told before part)
  pub ended : end + length (told text (drop i part)) ≡ at + length (told before part)
  pub within : i ≤ length part
  pub few : end ≤ at + i
  pub size : length buffer ≡ length buffer₀

module _ {before : HexText} {part buffer₀ : List ℕ} {at : ℕ} where
  pub reading-begun : Reading before part buffer₀ at buffer₀ before at 0
  reading-begun = record { become = refl; stored = refl; ended = refl; within = omega arith; few = omega arith; size = refl }

  pub reading-next : {buffer next : List ℕ} {text after-it : HexText} {end more i : ℕ} (bytes : List ℕ) → Reading before part buffer₀ at buffer text end i
      → i < length part → bytes ≡ given_by text.stand (get_or part i 0) → Stored bytes buffer next end more → after-it ≡ stepped text (get_or part i 0)
      → Reading before part buffer₀ at next after-it more (i + 1)
  unfolding after told
  reading-next {buffer} {next} {text} {after-it} {end} {more} {i} bytes r h e p s =
      record {
        become = ap (λ (t : HexText). after t (drop (i + 1) part)) s ∙ sym (ap (after text) left) ∙ r.become;
        stored =
            ap (λ (b : List ℕ). sets b more (told after-it (drop (i + 1) part))) p.stored
            ∙ ap (λ (n : ℕ). sets (sets buffer end bytes) n (told after-it (drop (i + 1) part))) p.ended
            ∙ stored-after buffer end bytes (told after-it (drop (i + 1) part))
            ∙ ap (sets buffer end) whole
            ∙ r.stored;
        ended = omega (arith, p.ended, r.ended, ap length whole, length-append bytes (told after-it (drop (i + 1) part)));
        within = omega (arith, h);
        few = omega (arith, r.few, p.ended, ap length e, given-one text.stand (get_or part i 0));
        size = ap length p.stored ∙ length-sets buffer end bytes ∙ r.size;
      }
    where
      left : drop i part ≡ get_or part i 0 ∷ drop (i + 1) part
      left = left-from part i h

      whole : bytes ++ told after-it (drop (i + 1) part) ≡ told text (drop i part)
      whole =
          ap (λ (xs : List ℕ). xs ++ told after-it (drop (i + 1) part)) e
          ∙ ap (λ (t : HexText). given_by text.stand (get_or part i 0) ++ told t (drop (i + 1) part)) s
          ∙ sym (ap (told text) left)

  -- nothing is left
  pub reading-done : {buffer : List ℕ} {text : HexText} {end i : ℕ} → Reading before part buffer₀ at buffer text end i → length part ≤ i
      → PartRead before part buffer₀ buffer at (record { text = text; used = i; end = end })
  unfolding after told
  reading-done {buffer} {text} {end} {i} r h =
      let none : drop i part ≡ [] = drop_of_length-le part {i = i} h in
      let ends : end + length (told text (drop i part)) ≡ end + 0 = ap (λ (xs : List ℕ). end + length (told text xs)) none in
      record {
        taken = omega (arith, r.within, h);
        become = sym (ap (after text) none) ∙ r.become;
        put = record { stored = sym (ap (λ (xs : List ℕ). sets buffer end (told text xs)) none) ∙ r.stored; ended = omega (arith, ends, r.ended) };
      }
