-- What the engine's way through the checks tells of a record that passes them. Assumes nothing.
use Prim.Native.Nat.{ℕ, ◌<◌, ◌≤◌, ◌^◌}
use mathlib.Core.Path.{◌≡◌, refl, sym, ap, subst}
use mathlib.Core.Bool.{Bool, true, false, cond, true≢false, not, ◌&&◌, ◌||◌}
use mathlib.Core.List.{List}
use native.Mathlib.Omega.{arith}
use borrow.Author.Tests.{lt-ltb, le-ltb, ne_eqb, eqb-true, eqb-false, leb-true, leb-false, ltb-true, ltb-false}
use lib.Dec.{T, eqb, leb, ltb, ltb→lt}
use Rattle.bits.proofs.Test.{left, by-test, or_left, or_right, and-true}
use Rattle.file.specs.declared.answer.Answer.{Answer}
use Rattle.file.specs.declared.answer.Answer.TheVariants.{Malformed, SpaceOff, OtherHalf, WrongWidth}
use Rattle.file.specs.declared.registers.File.{File}
use Rattle.file.specs.Registers.{register_count}
use Rattle.places.specs.declared.place.Place.{Place}
use Rattle.places.specs.declared.place.Place.TheVariants.{Register, Attribute}
use Rattle.places.specs.EngineCells.{is_nothing, cell_in, cell_width, in_file}
use Rattle.access.specs.declared.engine.Meant.{Meant}
use Rattle.std.specs.Prelude.{Result, Err, Ok}
use Rattle.access.specs.declared.engine.Meant.TheVariants.{At, Lines}
use Rattle.access.specs.declared.record.Record.{Record}
use Rattle.access.specs.Checks.{is_write, is_passing, carries, bad_access, bad_passing, malformed, space_off}
use Rattle.access.specs.Engine.{no_access, lines_pass, other_row, nothing_told, looked_by}

-- an ordinary access in good form has a kind up to 5
pub kind-below : (r : Record) → no_access r ≡ false → r.kind < 6
unfolding no_access
kind-below r e = omega (arith, ltb-false 5 r.kind (or_left (ltb 5 r.kind) (bad_access r) e))

-- and a write's value fits its width, which is 1 or 2
pub value-fits : (r : Record) → no_access r ≡ false → is_write r ≡ true → r.value < 256 ^ r.width
unfolding no_access bad_access
value-fits r m w =
    leb-false (256 ^ r.width) r.value
    (rw w at (or_right (not (eqb r.width 1 || eqb r.width 2)) (cond (is_write r) (leb (256 ^ r.width) r.value) (not (eqb r.value 0))) (or_right (ltb 5 r.kind) _ m)))

pub word_fits : (r : Record) → no_access r ≡ false → is_write r ≡ true → r.value < 65536
unfolding no_access bad_access
word_fits r m w =
    by-test (eqb r.width 1)
    (λ one. let h : r.value < 256 = subst (λ (n : ℕ). r.value < 256 ^ n) (eqb-true r.width 1 one) (value-fits r m w) in omega arith)
    (λ other. by-test (eqb r.width 2)
    (λ two. subst (λ (n : ℕ). r.value < 256 ^ n) (eqb-true r.width 2 two) (value-fits r m w))
    (λ no. absurd (true≢false (rw (other, no) at (or_left (not (eqb r.width 1 || eqb r.width 2)) _ (or_right (ltb 5 r.kind) _ m))))))

-- it brings a value where it is a write
pub carries-below : (r : Record) → r.kind < 6 → carries r ≡ is_write r
unfolding carries is_passing
carries-below r low =
    by-test (is_write r) (λ e. rw e refl) (λ e. rw (e, ne_eqb r.kind 6 (λ n. absurd (omega (arith, n)))) refl)

-- 02, 10/13: kind 6 in good form
pub record Passing (r : Record) : Type 0 where
  pub kind : r.kind ≡ 6
  pub width : r.width ≡ 2
  pub address : r.address ≡ 0
  pub value : r.value < 65536

pub is-passing : (r : Record) → lines_pass r ≡ true → Passing r
unfolding lines_pass is_passing bad_passing
is-passing r p =
    by-test (eqb r.kind 6)
    (λ k. by-test (eqb r.width 2)
    (λ w. by-test (eqb r.address 0)
    (λ a. by-test (leb 1 r.value)
    (λ l. by-test (leb r.value 65535)
    (λ h. record {
      kind = eqb-true r.kind 6 k;
      width = eqb-true r.width 2 w;
      address = eqb-true r.address 0 a;
      value = omega (arith, leb-true r.value 65535 h);
    })
    (λ h. absurd (true≢false (sym (rw (k, w, a, l, h) at p)))))
    (λ l. absurd (true≢false (sym (rw (k, w, a, l) at p)))))
    (λ a. absurd (true≢false (sym (rw (k, w, a) at p)))))
    (λ w. absurd (true≢false (sym (rw (k, w) at p)))))
    (λ k. absurd (true≢false (sym (rw k at p))))

-- a record is malformed where it is neither an ordinary access nor lines that pass
pub malformed-told : (f : File) (r : Record) → malformed f r ≡ (no_access r && not (lines_pass r))
unfolding malformed no_access lines_pass is_passing
malformed-told f r =
    by-test (ltb 6 r.kind)
    (λ g.
    let over : 6 < r.kind = ltb-true 6 r.kind g in
    rw (g, lt-ltb 5 r.kind (omega arith), ne_eqb r.kind 6 (λ n. absurd (omega (arith, n)))) refl)
    (λ g.
    let most : r.kind ≤ 6 = ltb-false 6 r.kind g in
    by-test (eqb r.kind 6)
    (λ k. rw (g, k, lt-ltb 5 r.kind (omega (arith, eqb-true r.kind 6 k))) (by-test (bad_passing r) (λ b. rw b refl) (λ b. rw b refl)))
    (λ k. rw (g, k, le-ltb 5 r.kind (omega (arith, eqb-false r.kind 6 k))) (sym (and-true (bad_access r)))))

at_cell : Result Meant Answer → ℕ
at_cell (Err a) = 0
at_cell (Ok (At cell)) = cell
at_cell (Ok Lines) = 0

is_at : Result Meant Answer → Bool
is_at (Err a) = false
is_at (Ok (At cell)) = true
is_at (Ok Lines) = false

is_lines : Result Meant Answer → Bool
is_lines (Err a) = false
is_lines (Ok (At cell)) = false
is_lines (Ok Lines) = true

pub record Passed (cells : List ℕ) (f : File) (r : Record) (cell : ℕ) : Type 0 where
  pub formed : no_access r ≡ false
  pub something : is_nothing (cell_in cells r.kind r.address) ≡ false
  pub named : cell ≡ cell_in cells r.kind r.address
  pub width : cell_width (cell_in cells r.kind r.address) ≡ r.width

module _ (cells : List ℕ) (f : File) (r : Record) (cell : ℕ) where
  abbrev Here : ℕ
  Here = cell_in cells r.kind r.address

  never : {A : Type 0} (a : Answer) → Err a ≡ Ok (At cell) → A
  unfolding is_at
  never a e = absurd (true≢false (sym (ap is_at e)))

  pub passed : looked_by cells f r ≡ Ok (At cell) → Passed cells f r cell
  unfolding looked_by at_cell is_at
  passed e =
      by-test (no_access r)
      (λ m. by-test (lines_pass r) (λ p. absurd (true≢false (sym (ap is_at (rw (m, p) at e))))) (λ p. never Malformed (rw (m, p) at e)))
      (λ m. by-test (space_off f r) (λ o. never SpaceOff (rw (m, o) at e))
      (λ o. by-test (is_nothing Here) (λ n. never (nothing_told Here) (rw (m, o, n) at e))
      (λ n. by-test (other_row f r) (λ h. never OtherHalf (rw (m, o, n, h) at e))
      (λ h. by-test (eqb (cell_width Here) r.width)
      (λ w. record {
        formed = m;
        something = n;
        named = sym (ap at_cell (rw (m, o, n, h, w) at e));
        width = eqb-true (cell_width Here) r.width w;
      })
      (λ w. never WrongWidth (rw (m, o, n, h, w) at e))))))

-- where the checks say that lines pass, they do
pub lines-told : (cells : List ℕ) (f : File) (r : Record) → looked_by cells f r ≡ Ok Lines → lines_pass r ≡ true
unfolding looked_by is_lines
lines-told cells f r e =
    let here = cell_in cells r.kind r.address in
    by-test (no_access r)
    (λ m. by-test (lines_pass r) (λ p. p) (λ p. no (rw (m, p) at e)))
    (λ m. by-test (space_off f r) (λ o. no (rw (m, o) at e))
    (λ o. by-test (is_nothing here) (λ n. no (rw (m, o, n) at e))
    (λ n. by-test (other_row f r) (λ h. no (rw (m, o, n, h) at e))
    (λ h. by-test (eqb (cell_width here) r.width) (λ w. no_cell (rw (m, o, n, h, w) at e)) (λ w. no (rw (m, o, n, h, w) at e))))))
  where
    no : {A : Type 0} {a : Answer} → Err a ≡ Ok Lines → A
    no e = absurd (true≢false (sym (ap is_lines e)))

    no_cell : {A : Type 0} {cell : ℕ} → ◌≡◌ {A = Result Meant Answer} (Ok (At cell)) (Ok Lines) → A
    no_cell e = absurd (true≢false (sym (ap is_lines e)))

-- the number that a place of the file names
pub register-below : (place : Place) (number : ℕ) → place ≡ Register number → T (in_file place) → number < register_count
unfolding in_file
register-below place number e t =
    ltb→lt number register_count (left (ltb number register_count) (ltb number register_count) (subst (λ (p : Place). T (in_file p)) e t))

pub attribute-below : (place : Place) (number : ℕ) → place ≡ Attribute number → T (in_file place) → number < register_count
unfolding in_file
attribute-below place number e t =
    ltb→lt number register_count (left (ltb number register_count) (ltb number register_count) (subst (λ (p : Place). T (in_file p)) e t))
