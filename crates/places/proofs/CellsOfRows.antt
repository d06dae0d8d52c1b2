-- A cell says what the list of places says: one computed test over all rows. Assumes nothing.
use Prim.Native.Nat.{ℕ, ◌%◌, ◌<◌}
use mathlib.Core.Path.{◌≡◌, refl, sym, ap, ◌∙◌, subst}
use mathlib.Core.Bool.{Bool, true, false, cond, true≢false, not, ◌&&◌, ◌||◌}
use mathlib.Core.List.{List, [], ◌∷◌, cons≢nil}
use mathlib.Core.Logic.{◌⊎◌, inl, inr, ⊎_elim}
use mathlib.Core.Option.{Option, none, some, none-ne-some}
use lib.Dec.{T, eqb, ltb, eqb→eq}
use borrow.Author.Tests.{not-true}
use Rattle.bits.proofs.Test.{left, right, both, either, second, and-false, by-test, passes, is_true, every_below, below}
use Rattle.file.specs.declared.chip.Chip.{Chip}
use Rattle.file.specs.declared.chip.Chip.TheVariants.{Gd5462, Gd5464}
use Rattle.file.specs.declared.registers.File.{File}
use Rattle.places.specs.EngineCells.{first_indexed, nothing_held, wider, plain_place, plain_cell, indexed_cell, of_kind, of_address, rows_in, rows_at, cell_of, held_cell, is_nothing, cell_width, chosen}
use Rattle.places.specs.Lookup.{selects, matches, first, row_at, place_of_row, place_at, some_row, held_in}
use Rattle.places.specs.Places.{Index, any, sr, cr, gr, ar, index_due, data_due, Row, places}
use Rattle.places.proofs.Rows.{every, on-chips, Passes, found}
use Rattle.places.proofs.SamePlace.{same_places}

-- ---- the rows of a kind and an address

-- a search among all rows is a search by address and index among those of the record's kind
of-kind : (f : File) (kind address : ℕ) (rows : List Row)
    → first (matches f kind address) rows ≡ first (λ (row : Row). eqb address row.address && selects f row.index) (of_kind kind rows)
unfolding first matches of_kind
of-kind f kind address [] = refl
of-kind f kind address (row ∷ rows) =
    by-test (eqb kind row.kind)
    (λ e. rw e (ap (cond (eqb address row.address && selects f row.index) (some row)) (of-kind f kind address rows)))
    (λ e. rw e (of-kind f kind address rows))

-- and a search by index among those of its address
of-address : (f : File) (address : ℕ) (rows : List Row)
    → first (λ (row : Row). eqb address row.address && selects f row.index) rows ≡ first (λ (row : Row). selects f row.index) (of_address address rows)
unfolding first of_address
of-address f address [] = refl
of-address f address (row ∷ rows) =
    by-test (eqb address row.address)
    (λ e. rw e (ap (cond (selects f row.index) (some row)) (of-address f address rows)))
    (λ e. rw e (of-address f address rows))

pub place-chosen : (f : File) (kind address : ℕ) → place_at f kind address ≡ chosen f (rows_at f.state.chip kind address)
unfolding place_at row_at chosen rows_at rows_in
place-chosen f kind address =
    ap place_of_row (of-kind f kind address (places f.state.chip) ∙ of-address f address (of_kind kind (places f.state.chip)))

-- ---- one computed test over all rows

-- the indexed ports: kind, address, cell
pub record Door : Type 0 where
  pub kind : ℕ
  pub address : ℕ
  pub cell : ℕ

abbrev pub door : ℕ → ℕ → ℕ → Door
door kind address cell = record { kind = kind; address = address; cell = cell }

unfoldable pub doors : List Door
doors =
    door 2 0x3C5 0x78 ∷ door 3 0x3C5 0x78
    ∷ door 2 0x3B5 0x79 ∷ door 3 0x3B5 0x79 ∷ door 2 0x3D5 0x79 ∷ door 3 0x3D5 0x79
    ∷ door 2 0x3CF 0x7A ∷ door 3 0x3CF 0x7A
    ∷ door 2 0x3C1 0x7B ∷ door 3 0x3C0 0x7C
    ∷ []

unfoldable pub same_door : Door → ℕ → ℕ → ℕ → Bool
same_door d kind address cell = eqb d.kind kind && eqb d.address address && eqb d.cell cell

unfoldable pub is_door : List Door → ℕ → ℕ → ℕ → Bool
is_door [] kind address cell = false
is_door (d ∷ ds) kind address cell = same_door d kind address cell || is_door ds kind address cell

-- some row is for any index
unfoldable pub is_any : Index → Bool
is_any any = true
is_any (sr n) = false
is_any (cr n) = false
is_any (gr n) = false
is_any (ar n) = false
is_any index_due = false
is_any (data_due n) = false

unfoldable pub some_any : List Row → Bool
some_any [] = false
some_any (row ∷ rows) = is_any row.index || some_any rows

-- a cell says of a row that something is held, its width, and its place unless it is an indexed port's
unfoldable pub says : Row → ℕ → Bool
says row cell =
    not (is_nothing cell)
    && eqb row.width (cell_width cell)
    && (ltb (cell % wider) first_indexed && same_places row.place (plain_place (cell % wider)) || is_door doors row.kind row.address cell)

-- so does the cell of the row's address; and one of the address's rows is for any index
unfoldable pub told : List Row → Row → Bool
told rows row = says row (cell_of (of_address row.address rows)) && some_any (of_address row.address rows)

unfoldable pub told_of : Chip → ℕ → Bool
told_of chip kind = every (told (of_kind kind (places chip))) (of_kind kind (places chip))

all_told : T (every_below (told_of Gd5462) 6) × T (every_below (told_of Gd5464) 6)
unfolding every_below told_of every told some_any is_any says is_nothing cell_width doors same_door is_door same_places plain_place plain_cell indexed_cell of_kind of_address cell_of places
all_told = (tt, tt)

rows_told : (chip : Chip) (kind : ℕ) → kind < 6 → T (every (told (of_kind kind (places chip))) (of_kind kind (places chip)))
unfolding told_of
rows_told chip kind h = below (told_of chip) 6 (on-chips (λ (c : Chip). every_below (told_of c) 6) all_told chip) kind h

-- ---- what a record finds, and what its cell says

-- a row for any index is selected
any-selected : (f : File) (i : Index) → T (is_any i) → selects f i ≡ true
unfolding is_any selects
any-selected f any t = refl
any-selected f (sr n) t = absurd t
any-selected f (cr n) t = absurd t
any-selected f (gr n) t = absurd t
any-selected f (ar n) t = absurd t
any-selected f index_due t = absurd t
any-selected f (data_due n) t = absurd t

-- so a search by index among rows of which one is for any index finds something
finds : (f : File) (rows : List Row) → T (some_any rows) → first (λ (row : Row). selects f row.index) rows ≡ none → ⊥
unfolding some_any first
finds f [] t e = t
finds f (row ∷ rows) t e =
    by-test (selects f row.index)
    (λ s. none-ne-some row (sym (rw s at e)))
    (λ s. finds f rows
    (either (is_any row.index) (some_any rows) t (λ a. true≢false (sym (any-selected f row.index a) ∙ s))) (rw s at e))

-- an address has no rows, or one for any index
rows_of : (all rows : List Row) (address : ℕ) → T (every (told all) rows) → (of_address address rows ≡ []) ⊎ T (some_any (of_address address all))
unfolding every told of_address
rows_of all [] address t = inl refl
rows_of all (row ∷ rows) address t =
    by-test (eqb address row.address)
    (λ e. inr (subst (λ (a : ℕ). T (some_any (of_address a all))) (sym (eqb→eq address row.address (passes (eqb address row.address) e)))
    (right (says row (cell_of (of_address row.address all))) (some_any (of_address row.address all)) (left (told all row) (every (told all) rows) t))))
    (λ e. rw e (rows_of all rows address (right (told all row) (every (told all) rows) t)))

-- a record finds nothing, and its cell is 127; or a row of which its cell speaks
pub data Outcome (f : File) (kind address : ℕ) : Type 0 where
  nothing : row_at f kind address ≡ none → held_cell f.state.chip kind address ≡ nothing_held → Outcome f kind address
  held : (row : Row) → row_at f kind address ≡ some row → row.kind ≡ kind → row.address ≡ address
      → T (says row (held_cell f.state.chip kind address)) → Outcome f kind address

module _ (f : File) (kind address : ℕ) where
  abbrev All : List Row
  All = of_kind kind (places f.state.chip)

  abbrev Here : Row → Bool
  Here row = eqb address row.address && selects f row.index

  row-found : row_at f kind address ≡ first (λ (row : Row). selects f row.index) (of_address address All)
  unfolding row_at
  row-found = of-kind f kind address (places f.state.chip) ∙ of-address f address All

  -- every row of a kind has that kind
  pub kinds : (rows : List Row) → T (every (λ (row : Row). eqb kind row.kind) (of_kind kind rows))
  unfolding every of_kind
  kinds [] = tt
  kinds (row ∷ rows) =
      by-test (eqb kind row.kind)
      (λ e. rw e (both (eqb kind row.kind) (every (λ (row : Row). eqb kind row.kind) (of_kind kind rows))
      (passes (eqb kind row.kind) e) (kinds rows)))
      (λ e. rw e (kinds rows))

  outcome-of : (o : Option Row) → row_at f kind address ≡ o → T (some_any (of_address address All))
      → Passes (λ (row : Row). told All row && Here row) o → Passes (λ (row : Row). eqb kind row.kind && Here row) o → Outcome f kind address
  unfolding told held_cell rows_at rows_in
  outcome-of none e t p k = absurd (finds f (of_address address All) t (sym row-found ∙ e))
  outcome-of (some row) e t p k =
      let here : address ≡ row.address =
      eqb→eq address row.address (left (eqb address row.address) (selects f row.index) (right (told All row) (Here row) p)) in
      held row e (sym (eqb→eq kind row.kind (left (eqb kind row.kind) (Here row) k))) (sym here)
      (subst (λ (a : ℕ). T (says row (cell_of (of_address a All)))) (sym here)
      (left (says row (cell_of (of_address row.address All))) (some_any (of_address row.address All)) (left (told All row) (Here row) p)))

  pub outcome : kind < 6 → Outcome f kind address
  unfolding row_at held_cell rows_at rows_in cell_of first
  outcome h =
      ⊎_elim
      (λ e. nothing (row-found ∙ ap (first (λ (row : Row). selects f row.index)) e) (ap cell_of e))
      (λ t. outcome-of (row_at f kind address) refl t
      (subst (Passes (λ (row : Row). told All row && Here row)) (sym (of-kind f kind address (places f.state.chip))) (found (told All) Here All (rows_told f.state.chip kind h)))
      (subst (Passes (λ (row : Row). eqb kind row.kind && Here row)) (sym (of-kind f kind address (places f.state.chip)))
      (found (λ (row : Row). eqb kind row.kind) Here All (kinds (places f.state.chip)))))
      (rows_of All All address (rows_told f.state.chip kind h))

  -- an address is held for a kind of record, whatever the index, where a file finds a row, and nowhere else
  found-held : (rows : List Row) (row : Row) → first (matches f kind address) rows ≡ some row → T (held_in rows kind address)
  unfolding first matches held_in some_row
  found-held [] row e = absurd (none-ne-some row e)
  found-held (next ∷ rows) row e =
      by-test (matches f kind address next)
      (λ m.
      let same = left (eqb kind next.kind && eqb address next.address) (selects f next.index) (passes (matches f kind address next) m) in
      rw (
        is_true (eqb kind next.kind) (left (eqb kind next.kind) (eqb address next.address) same),
        is_true (eqb address next.address) (right (eqb kind next.kind) (eqb address next.address) same),
      ) tt)
      (λ m. second (eqb address next.address && eqb kind next.kind) (held_in rows kind address) (found-held rows row (rw m at e)))

  no-rows-held : (rows : List Row) → of_address address (of_kind kind rows) ≡ [] → held_in rows kind address ≡ false
  unfolding of_address of_kind held_in some_row
  no-rows-held [] e = refl
  no-rows-held (row ∷ rows) e =
      by-test (eqb kind row.kind)
      (λ k. by-test (eqb address row.address)
      (λ a. absurd (cons≢nil (rw (k, a) at e)))
      (λ a. rw (k, a) (no-rows-held rows (rw (k, a) at e))))
      (λ k. rw (k, and-false) (no-rows-held rows (rw k at e)))

  pub some-held : (row : Row) → row_at f kind address ≡ some row → held_in (places f.state.chip) kind address ≡ true
  unfolding row_at
  some-held row e = is_true (held_in (places f.state.chip) kind address) (found-held (places f.state.chip) row e)

  pub none-held : kind < 6 → row_at f kind address ≡ none → held_in (places f.state.chip) kind address ≡ false
  none-held h e =
      ⊎_elim (no-rows-held (places f.state.chip)) (λ t. absurd (finds f (of_address address All) t (sym row-found ∙ e))) (rows_of All All address (rows_told f.state.chip kind h))

-- what a cell says of a row, part by part
pub record Spoken (row : Row) (cell : ℕ) : Type 0 where
  pub something : is_nothing cell ≡ false
  pub width : row.width ≡ cell_width cell
  pub place : T (ltb (cell % wider) first_indexed && same_places row.place (plain_place (cell % wider)) || is_door doors row.kind row.address cell)

pub spoken : (row : Row) (cell : ℕ) → T (says row cell) → Spoken row cell
unfolding says
spoken row cell t =
    let two : T (not (is_nothing cell) && eqb row.width (cell_width cell)) =
    left (not (is_nothing cell) && eqb row.width (cell_width cell))
    (ltb (cell % wider) first_indexed && same_places row.place (plain_place (cell % wider)) || is_door doors row.kind row.address cell) t in
    record {
      something = not-true (is_nothing cell) (is_true (not (is_nothing cell)) (left (not (is_nothing cell)) (eqb row.width (cell_width cell)) two));
      width = eqb→eq row.width (cell_width cell) (right (not (is_nothing cell)) (eqb row.width (cell_width cell)) two);
      place =
          right (not (is_nothing cell) && eqb row.width (cell_width cell))
          (ltb (cell % wider) first_indexed && same_places row.place (plain_place (cell % wider)) || is_door doors row.kind row.address cell) t;
    }

-- an address is held for a kind of record where its rows' cell is not one of nothing
pub told-held : (f : File) (kind address : ℕ) → kind < 6 → held_in (places f.state.chip) kind address ≡ not (is_nothing (held_cell f.state.chip kind address))
unfolding is_nothing
told-held f kind address low = by (outcome f kind address low)
  where
    by : Outcome f kind address → held_in (places f.state.chip) kind address ≡ not (is_nothing (held_cell f.state.chip kind address))
    by (nothing e c) = rw c (none-held f kind address low e)
    by (held row e k a s) = some-held f kind address row e ∙ ap not (sym (spoken row (held_cell f.state.chip kind address) s).something)
