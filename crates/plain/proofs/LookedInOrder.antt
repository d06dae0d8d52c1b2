-- What the checks say, read off rows that say 01's places, is what 01's checks say in their order. Assumes nothing.
use mathlib.Core.Path.{◌≡◌, sym, ap, ◌∙◌}
use mathlib.Core.Bool.{Bool, true, false, cond, true≢false}
use mathlib.Core.List.{List}
use lib.Dec.{T, eqb}
use Rattle.std.specs.Prelude.{Option, Some, None, Result, Ok, Err}
use Rattle.std.specs.List.{find, list_any}
use borrow.Author.Tests.{eqb-true}
use Rattle.bits.proofs.Test.{by-test, chosen}
use Rattle.file.specs.declared.answer.Answer.{Answer}
use Rattle.file.specs.declared.answer.Answer.TheVariants.{Malformed, SpaceOff, NotHeld, OtherHalf, WrongWidth, NotSound, OtherDirection, InsideWider}
use Rattle.file.specs.declared.registers.File.{File}
use Rattle.file.specs.Answers.{code_of, refused}
use Rattle.file.specs.Sound.{sound}
use Rattle.places.specs.Lookup.{first, matches, row_at, other_way, held_in, inside_in}
use Rattle.places.specs.Places.{Row as PlaceRow, places}
use Rattle.access.specs.declared.record.Record.{Record}
use Rattle.access.specs.Checks.{checks, first_refusal, not_sound, malformed, space_off, not_held, no_row, other_direction, inside_wider, of_other_half, other_width, wrong_width}
use Rattle.plain.specs.declared.row.Row.{Row}
use Rattle.plain.specs.Looked.{nothing_there, looked_at, looked_over}
use Rattle.plain.specs.Rows.{said, say_all}
use Rattle.plain.specs.Walk.{fits, holds, inside}
use Rattle.plain.proofs.RowsSay.{meant_row, first_found, held_found, inside_found}

-- the answer where the checks refuse, else another
unfoldable pub settled : Result Row Answer → Answer → Answer
settled (Err a) otherwise = a
settled (Ok row) otherwise = otherwise

module _ (rows : List Row) (f : File) (r : Record) (says : say_all f.state.chip rows ≡ places f.state.chip) where
  abbrev Meant : Option Row → Type 0
  Meant there = row_at f r.kind r.address ≡ meant_row f r.kind r.address there

  -- what the walk finds is the row of 01's list that the record means
  pub row-meant : Meant (find (fits f r.kind r.address) rows)
  unfolding row_at
  row-meant = ap (first (matches f r.kind r.address)) (sym says) ∙ first_found f r.kind r.address rows

  -- 16, 17, 4, 5 and 6, as 01's checks have them
  abbrev Later : Answer → Answer
  Later otherwise =
      cond (other_direction f r) OtherDirection
      (cond (inside_wider f r) InsideWider
      (cond (not_held f r) NotHeld (cond (of_other_half f r) OtherHalf (cond (wrong_width f r) WrongWidth otherwise))))

  held : held_in (places f.state.chip) (other_way r.kind) r.address ≡ list_any (holds f.state.chip (other_way r.kind) r.address) rows
  held =
      ap (λ (l : List PlaceRow). held_in l (other_way r.kind) r.address) (sym says)
      ∙ held_found f.state.chip (other_way r.kind) r.address rows

  within : inside_in (places f.state.chip) r.kind r.address ≡ list_any (inside f.state.chip r.kind r.address) rows
  within = ap (λ (l : List PlaceRow). inside_in l r.kind r.address) (sym says) ∙ inside_found f.state.chip r.kind r.address rows

  later : (there : Option Row) → Meant there → (otherwise : Answer) → Later otherwise ≡ settled (looked_at rows f r there) otherwise
  unfolding other_direction inside_wider not_held no_row wrong_width other_width meant_row said looked_at nothing_there settled
  later None e otherwise =
      rw (e, held, within)
      (by-test (list_any (holds f.state.chip (other_way r.kind) r.address) rows) (λ o. rw o)
      (λ o. rw o (by-test (list_any (inside f.state.chip r.kind r.address) rows) (λ i. rw i) (λ i. rw i))))
  later (Some row) e otherwise =
      rw e
      (by-test (of_other_half f r) (λ h. rw h)
      (λ h. rw h (by-test (eqb row.width r.width) (λ w. rw w) (λ w. rw w))))

  -- 'Access checks run 12, 2, 3, 4, 5, 6'; at 4's place 16, 17, 4
  pub in_order : (otherwise : Answer) → first_refusal checks f r otherwise ≡ settled (looked_over rows f r) otherwise
  unfolding first_refusal checks not_sound looked_over settled
  in_order otherwise =
      by-test (sound f)
      (λ s. rw s
      (by-test (malformed f r) (λ m. rw m)
      (λ m. rw m
      (by-test (space_off f r) (λ o. rw o) (λ o. rw o (later (find (fits f r.kind r.address) rows) row-meant otherwise))))))
      (λ s. rw s)

-- ---- what a refusal is

-- a refusal of the checks is one
refuses : Result Row Answer → Bool
refuses (Err a) = refused a
refuses (Ok row) = true

module _ (rows : List Row) (f : File) (r : Record) where
  at-refuses : (there : Option Row) → T (refuses (looked_at rows f r there))
  unfolding looked_at nothing_there refuses refused code_of
  at-refuses None =
      chosen refused (list_any (holds f.state.chip (other_way r.kind) r.address) rows) OtherDirection _ tt
      (chosen refused (list_any (inside f.state.chip r.kind r.address) rows) InsideWider NotHeld tt tt)
  at-refuses (Some row) =
      chosen refuses (of_other_half f r) (Err OtherHalf) _ tt (chosen refuses (eqb row.width r.width) (Ok row) (Err WrongWidth) tt tt)

  looked-refuses : T (refuses (looked_over rows f r))
  unfolding looked_over refuses refused code_of
  looked-refuses =
      chosen refuses (sound f) _ (Err NotSound)
      (chosen refuses (malformed f r) (Err Malformed) _ tt
      (chosen refuses (space_off f r) (Err SpaceOff) _ tt (at-refuses (find (fits f r.kind r.address) rows))))
      tt

  pub is-refused : (a : Answer) → looked_over rows f r ≡ Err a → T (refused a)
  unfolding refuses
  is-refused a e = rw e at looked-refuses

-- ---- what a record that passes has shown

pub record Passed (rows : List Row) (f : File) (r : Record) (row : Row) : Type 0 where
  pub formed : malformed f r ≡ false
  pub there : find (fits f r.kind r.address) rows ≡ Some row
  pub width : row.width ≡ r.width

means_row : Result Row Answer → Bool
means_row (Err a) = false
means_row (Ok row) = true

row_meant : Row → Result Row Answer → Row
row_meant otherwise (Err a) = otherwise
row_meant otherwise (Ok row) = row

module _ (rows : List Row) (f : File) (r : Record) (row : Row) where
  never : {A : Type 0} (a : Answer) → ◌≡◌ {A = Result Row Answer} (Err a) (Ok row) → A
  unfolding means_row
  never a e = absurd (true≢false (sym (ap means_row e)))

  at-passed : (there : Option Row) → looked_at rows f r there ≡ Ok row → (there ≡ Some row) × (row.width ≡ r.width)
  unfolding looked_at row_meant
  at-passed None e = never (nothing_there rows f.state.chip r) e
  at-passed (Some other) e =
      by-test (of_other_half f r) (λ h. never OtherHalf (rw h at e))
      (λ h. by-test (eqb other.width r.width)
      (λ w.
      let same : other ≡ row = ap (row_meant other) (rw (h, w) at e) in
      (ap {B = Option Row} (λ (x : Row). Some x) same, ap (λ (x : Row). x.width) (sym same) ∙ eqb-true other.width r.width w))
      (λ w. never WrongWidth (rw (h, w) at e)))

  pub passed : looked_over rows f r ≡ Ok row → Passed rows f r row
  unfolding looked_over
  passed e =
      by-test (sound f)
      (λ s. by-test (malformed f r) (λ m. never Malformed (rw (s, m) at e))
      (λ m. by-test (space_off f r) (λ o. never SpaceOff (rw (s, m, o) at e))
      (λ o.
      let at = at-passed (find (fits f r.kind r.address) rows) (rw (s, m, o) at e) in
      record { formed = m; there = at.0; width = at.1 })))
      (λ s. never NotSound (rw s at e))
