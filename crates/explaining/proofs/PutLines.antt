-- A line stored into a buffer, byte by byte. Assumes nothing.
use Prim.Native.Nat.{ℕ, zero, suc, ◌+◌, ◌-◌, ◌*◌, ◌≤◌, ◌<◌}
use mathlib.Core.List.{List, ◌++◌, append_assoc}
use mathlib.Core.Path.{◌≡◌, refl, sym, ap, ◌∙◌}
use native.Mathlib.Nat.{add-zero, sub-zero}
use native.Mathlib.Omega.{arith}
use borrow.Author.Tests.{eq-eqb, ne_eqb}
use lib.Dec.{eqb}
use lib.ListN.{length, take, length-take, length-append}
use lib.Seq.{length-sets, sets}
use Rattle.bits.proofs.Test.{by-test}
use Rattle.text.specs.Lent.{Wrote}
use Rattle.text.specs.Text.{newline}
use Rattle.text.proofs.Stores.{rest-stored, then-text}
use Rattle.explaining.specs.Lines.{Line, line_room, line_text, lines_of}

-- a line that has nothing is none
pub no_line : (line : Line) (buffer : List ℕ) (at : ℕ) → line.end ≡ 0 → Wrote buffer at (line_text line) buffer at
no_line line buffer at e = rw (eq-eqb line.end 0 e) (record { bytes = refl; place = omega arith })

-- any other has its bytes and a newline
pub whole-line : (line : Line) (before middle after : List ℕ) (at p q : ℕ) → (line.end ≡ 0 → ⊥) → Wrote before at (take line.end line.bytes) middle p
    → Wrote middle p newline after q → Wrote before at (line_text line) after q
whole-line line before middle after at p q some first second = rw (ne_eqb line.end 0 some) (then-text first second)

-- a line has 160 bytes at most
pub line-short : (line : Line) → length line.bytes ≡ 159 → length (line_text line) ≤ line_room
unfolding newline
line-short line long =
    by-test (eqb line.end 0) (λ t. rw t (omega arith))
    (λ t. rw (t, length-append) (omega (arith, length-take line.end line.bytes, long)))

-- behind so many lines: what is left, stored, gives the whole
pub record Lining (line_of : ℕ → Line) (count : ℕ) (buffer₀ : List ℕ) (at : ℕ) (buffer : List ℕ) (at' k : ℕ) : Type 0 where
  pub stored : sets buffer at' (lines_of line_of k (count - k)) ≡ sets buffer₀ at (lines_of line_of 0 count)
  pub place : at' + length (lines_of line_of k (count - k)) ≡ at + length (lines_of line_of 0 count)
  pub near : at' ≤ at + line_room * k
  pub few : k ≤ count
  pub long : length buffer ≡ length buffer₀

module _ (line_of : ℕ → Line) (count : ℕ) where
  pub lining-none : (buffer : List ℕ) (at : ℕ) → Lining line_of count buffer at buffer at 0
  lining-none buffer at = record { stored = rw sub-zero refl; place = rw sub-zero refl; near = omega arith; few = omega arith; long = refl }

  module _ (buffer₀ : List ℕ) (at : ℕ) (buffer : List ℕ) (at' k : ℕ) (held : Lining line_of count buffer₀ at buffer at' k) where
    pub lining-next : k < count → (line : Line) → line ≡ line_of k → (after : List ℕ) (end : ℕ)
        → Wrote buffer at' (line_text line) after end → end ≤ at' + line_room → Lining line_of count buffer₀ at after end (k + 1)
    unfolding lines_of
    lining-next more line e after end wrote short =
        let next : k + 1 ≡ suc k = omega arith in
        let left : count - k ≡ suc (count - (k + 1)) = omega (arith, more) in
        let rest : List ℕ = lines_of line_of (k + 1) (count - (k + 1)) in
        let all : lines_of line_of k (count - k) ≡ line_text line ++ rest = rw (left, next, e) refl in
        record {
          stored = rest-stored rest wrote ∙ ap (sets buffer at') (sym all) ∙ held.stored;
          place = omega (arith, wrote.place, held.place, ap length all, length-append (line_text line) rest);
          near = omega (arith, held.near, short);
          few = omega (arith, more);
          long = ap length wrote.bytes ∙ length-sets buffer at' (line_text line) ∙ held.long;
        }

    pub lining-all : count ≤ k → Wrote buffer₀ at (lines_of line_of 0 count) buffer at'
    unfolding lines_of
    lining-all all =
        let none : count - k ≡ 0 = omega (arith, all) in
        record { bytes = rw none at held.stored; place = omega (arith, rw none at held.place) }

-- lines in two parts
lines-split : (line_of : ℕ → Line) (k a b : ℕ) → lines_of line_of k (a + b) ≡ lines_of line_of k a ++ lines_of line_of (k + a) b
unfolding lines_of
lines-split line_of k zero b =
    let none : 0 + b ≡ b = omega arith in
    rw (none, add-zero) refl
lines-split line_of k (suc a) b =
    let here : k + suc a ≡ suc k + a = omega arith in
    let more : suc a + b ≡ suc (a + b) = omega arith in
    rw (more, here, lines-split line_of (suc k) a b) (sym (append_assoc (line_text (line_of k)) (lines_of line_of (suc k) a) (lines_of line_of (suc k + a) b)))

-- lines numbered from another number on
lines-moved : (line_of : ℕ → Line) (j k count : ℕ) → lines_of (λ (n : ℕ). line_of (j + n)) k count ≡ lines_of line_of (j + k) count
unfolding lines_of
lines-moved line_of j k zero = refl
lines-moved line_of j k (suc count) =
    let next : j + suc k ≡ suc (j + k) = omega arith in
    ap (λ (l : List ℕ). line_text (line_of (j + k)) ++ l) (lines-moved line_of j (suc k) count ∙ ap (λ (n : ℕ). lines_of line_of n count) next)

-- lines from a number on, stored behind those before it
pub then-lines : (line_of : ℕ → Line) {before middle after : List ℕ} {at p q : ℕ} (a b : ℕ) → Wrote before at (lines_of line_of 0 a) middle p
    → Wrote middle p (lines_of (λ (n : ℕ). line_of (a + n)) 0 b) after q → Wrote before at (lines_of line_of 0 (a + b)) after q
then-lines line_of a b first second =
    let from : a + 0 ≡ 0 + a = omega arith in
    let rest = lines-moved line_of a 0 b ∙ ap (λ (n : ℕ). lines_of line_of n b) from in
    rw lines-split (then-text first (rw rest at second))
