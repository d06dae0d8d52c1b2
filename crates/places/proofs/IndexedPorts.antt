-- The place that a file selects behind an indexed port is what its cell names. Assumes nothing.
use Prim.Native.Nat.{ℕ, zero, suc, ◌+◌, ◌-◌, ◌/◌, ◌%◌, ◌≤◌, ◌<◌}
use mathlib.Core.Path.{◌≡◌, refl, sym, ap, ap₂, ◌∙◌, subst, subst₂, subst₃}
use mathlib.Core.Bool.{Bool, true, false, cond, true≢false, not, ◌&&◌}
use mathlib.Core.List.{List, [], ◌∷◌, ◌++◌}
use mathlib.Core.Option.{Option, some}
use lib.Dec.{T, eqb, leb, ltb, eqb→eq, leb→le, ltb→lt, lit≤}
use lib.ListN.{get_or}
use native.Mathlib.Omega.{arith}
use borrow.Author.Tests.{le-ltb, ne_eqb, eqb-true}
use native.Mathlib.Nat.{mod-eq_of_lt}
use Rattle.bits.specs.Store.{bits}
use Rattle.bits.proofs.Test.{left, right, either, by-test, passes, is_true, every_below, below}
use Rattle.file.specs.declared.chip.Chip.{Chip}
use Rattle.file.specs.declared.chip.Chip.TheVariants.{Gd5462, Gd5464}
use Rattle.file.specs.declared.registers.File.{File}
use Rattle.file.specs.declared.state.State.{State}
use Rattle.file.specs.File.{register, seen}
use Rattle.file.specs.State.{initial, unasked, toggling}
use Rattle.file.specs.Names.{SRX, CRX, GRX}
use Rattle.places.specs.declared.place.Place.{Place}
use Rattle.places.specs.declared.place.Place.TheVariants.{Unnamed}
use Rattle.places.specs.EngineCells.{first_indexed, nothing_held, wider, plain_place, plain_cell, of_kind, of_address, rows_in, rows_at, held_cell, chosen, indices_at, cells_from, behind_port, behind_srx, count_srx, behind_crx, count_crx, behind_grx, count_grx, behind_arx, count_arx, cell_count, table_cell, cell_table, attribute_place, indexed_places, cell_place}
use Rattle.places.specs.Lookup.{attribute_index, selects, first, row_at, place_of_row, place_at}
use Rattle.places.specs.Places.{Index, any, sr, cr, gr, ar, index_due, data_due, Row, shared_places, own_places, places}
use Rattle.places.proofs.CellsOfRows.{Door, door, doors, same_door, is_door, Outcome, nothing, held, outcome, spoken, place-chosen}
use Rattle.places.proofs.Rows.{every}
use Rattle.places.proofs.TableOfCells.{at-cell, sequencer-cells, crtc-cells, graphics-cells, attribute-cells}
use Rattle.places.proofs.SamePlace.{same_places, same_place}

-- ---- the place that a cell names

-- the kinds of index: 0 to 3 by SRX, CRX, GRX and ARX[4:0], 4 by the toggle and ARX[4:0]
unfoldable pub is_by : ℕ → Index → Bool
is_by c any = true
is_by c (sr n) = eqb c 0
is_by c (cr n) = eqb c 1
is_by c (gr n) = eqb c 2
is_by c (ar n) = eqb c 3
is_by c index_due = eqb c 4
is_by c (data_due n) = eqb c 4

-- the number that decides, and how many there are
unfoldable pub decider : File → ℕ → ℕ
decider f c = get_or (register f SRX ∷ register f CRX ∷ register f GRX ∷ attribute_index f ∷ attribute_index f ∷ []) c 0

unfoldable pub count : ℕ → ℕ
count c = get_or (count_srx ∷ count_crx ∷ count_grx ∷ count_arx ∷ count_arx ∷ []) c 0

-- what stands behind an indexed port in a file, by the list of places
unfoldable pub behind_of : File → ℕ → Place
unfolding plain_place attribute_place register attribute_index
behind_of f c =
    get_or
    (plain_place (get_or (behind_port 0x3C5 count_srx) (register f SRX) 0)
    ∷ plain_place (get_or (behind_port 0x3B5 count_crx) (register f CRX) 0)
    ∷ plain_place (get_or (behind_port 0x3CF count_grx) (register f GRX) 0)
    ∷ plain_place (get_or (behind_port 0x3C1 count_arx) (attribute_index f) 0)
    ∷ attribute_place f.state.toggle (get_or (behind_port 0x3C1 count_arx) (attribute_index f) 0)
    ∷ [])
    c
    Unnamed

-- by a kind of index that is a given one, what decides is what that one looks at
decided : (f g : File) (c k : ℕ) → T (eqb c k) → decider f c ≡ decider g c → decider f k ≡ decider g k
decided f g c k t e = subst (λ (c : ℕ). decider f c ≡ decider g c) (eqb→eq c k t) e

-- two files of which the same decides
module _ (f g : File) (toggle : f.state.toggle ≡ g.state.toggle) where
  -- they select the same rows of a kind
  same-selects : (c : ℕ) (i : Index) → T (is_by c i) → decider f c ≡ decider g c → selects f i ≡ selects g i
  unfolding is_by selects decider attribute_index
  same-selects c any t e = refl
  same-selects c (sr n) t e = ap (λ (m : ℕ). eqb m n) (decided f g c 0 t e)
  same-selects c (cr n) t e = ap (λ (m : ℕ). eqb m n) (decided f g c 1 t e)
  same-selects c (gr n) t e = ap (λ (m : ℕ). eqb m n) (decided f g c 2 t e)
  same-selects c (ar n) t e = ap (λ (m : ℕ). eqb m n) (decided f g c 3 t e)
  same-selects c index_due t e = ap not toggle
  same-selects c (data_due n) t e = ap₂ (λ (b : Bool) (m : ℕ). b && eqb m n) toggle (decided f g c 4 t e)

  -- so they choose the same place among them
  same_first : (c : ℕ) (rows : List Row) → T (every (λ (row : Row). is_by c row.index) rows) → decider f c ≡ decider g c
      → first (λ (row : Row). selects f row.index) rows ≡ first (λ (row : Row). selects g row.index) rows
  unfolding every first
  same_first c [] t e = refl
  same_first c (row ∷ rows) t e =
      ap₂ (λ (b : Bool) (o : Option Row). cond b (some row) o)
      (same-selects c row.index (left (is_by c row.index) (every (λ (row : Row). is_by c row.index) rows) t) e)
      (same_first c rows (right (is_by c row.index) (every (λ (row : Row). is_by c row.index) rows) t) e)

  -- and the same stands behind the port
  same-behind : (c : ℕ) → c < 5 → decider f c ≡ decider g c → behind_of f c ≡ behind_of g c
  unfolding behind_of decider
  same-behind zero h e = ap (λ (n : ℕ). plain_place (get_or (behind_port 0x3C5 count_srx) n 0)) e
  same-behind (suc zero) h e = ap (λ (n : ℕ). plain_place (get_or (behind_port 0x3B5 count_crx) n 0)) e
  same-behind (suc (suc zero)) h e = ap (λ (n : ℕ). plain_place (get_or (behind_port 0x3CF count_grx) n 0)) e
  same-behind (suc (suc (suc zero))) h e = ap (λ (n : ℕ). plain_place (get_or (behind_port 0x3C1 count_arx) n 0)) e
  same-behind (suc (suc (suc (suc zero)))) h e =
      ap₂ (λ (b : Bool) (n : ℕ). attribute_place b (get_or (behind_port 0x3C1 count_arx) n 0)) toggle e
  same-behind (suc (suc (suc (suc (suc c))))) h e = absurd (omega arith)

-- ARX[4:0] of ARX[4:0]
attribute-kept : (f : File) → attribute_index f ≡ bits 4 0 (attribute_index f)
unfolding attribute_index bits
attribute-kept f = omega arith

-- in a file whose index registers all hold what decides in another, the same decides
same-decides : (f : File) (state : State) (c : ℕ) → c < 5 → decider f c ≡ decider (seen (indices_at (decider f c)) state) c
unfolding decider seen register attribute_index
same-decides f state zero h = refl
same-decides f state (suc zero) h = refl
same-decides f state (suc (suc zero)) h = refl
same-decides f state (suc (suc (suc zero))) h = attribute-kept f
same-decides f state (suc (suc (suc (suc zero)))) h = attribute-kept f
same-decides f state (suc (suc (suc (suc (suc c))))) h = absurd (omega arith)

-- at an indexed port, with either toggle and each deciding number: the rows go by that kind of index, and the cell names the place chosen
unfoldable pub opens : State → List Row → ℕ → ℕ → Bool
opens state rows c n = same_places (chosen (seen (indices_at n) state) rows) (behind_of (seen (indices_at n) state) c)

module _ (d : Door) where
  abbrev Rows : List Row
  Rows = rows_in shared_places d.kind d.address

  abbrev Port : Bool
  Port = eqb (d.kind / 2) 1

  abbrev Among : Bool
  Among = leb first_indexed d.cell && ltb d.cell (first_indexed + 5)

  abbrev Within : Bool
  Within = Port && Among

  abbrev ByKind : Bool
  ByKind = every (λ (row : Row). is_by (d.cell - first_indexed) row.index) Rows

  abbrev Opens : Bool → Bool
  Opens toggle = every_below (opens (toggling toggle unasked) Rows (d.cell - first_indexed)) (count (d.cell - first_indexed))

  unfoldable pub opened : Bool
  opened = Within && (ByKind && (Opens true && Opens false))

unfoldable pub all_opened : List Door → Bool
all_opened [] = true
all_opened (d ∷ ds) = opened d && all_opened ds

doors-opened : T (all_opened doors)
unfolding all_opened opened opens every_below count doors every is_by same_places plain_cell of_kind of_address rows_in chosen cells_from behind_port behind_of seen initial toggling selects first place_of_row shared_places
doors-opened = tt

-- the index registers hold what their stored bits can hold
abbrev pub Indexed : File → Type 0
Indexed f = (c : ℕ) → c < 5 → decider f c < count c

-- the place chosen at an open door
module _ (f : File) (bound : Indexed f) (d : Door) (t : T (opened d)) where
  abbrev C : ℕ
  C = d.cell - first_indexed

  within : (first_indexed ≤ d.cell) × (d.cell < first_indexed + 5)
  unfolding opened
  within =
      let w : T (Among d) = right (Port d) (Among d) (left (Within d) (ByKind d && (Opens d true && Opens d false)) t) in (
        leb→le first_indexed d.cell (left (leb first_indexed d.cell) (ltb d.cell (first_indexed + 5)) w),
        ltb→lt d.cell (first_indexed + 5) (right (leb first_indexed d.cell) (ltb d.cell (first_indexed + 5)) w),
      )

  pub is-port : eqb (d.kind / 2) 1 ≡ true
  unfolding opened
  is-port = is_true (Port d) (left (Port d) (Among d) (left (Within d) (ByKind d && (Opens d true && Opens d false)) t))

  by_kind : T (ByKind d)
  unfolding opened
  by_kind = left (ByKind d) (Opens d true && Opens d false) (right (Within d) (ByKind d && (Opens d true && Opens d false)) t)

  opens_at : (toggle : Bool) → T (Opens d toggle)
  unfolding opened
  opens_at true = left (Opens d true) (Opens d false) (right (ByKind d) (Opens d true && Opens d false) (right (Within d) (ByKind d && (Opens d true && Opens d false)) t))
  opens_at false = right (Opens d true) (Opens d false) (right (ByKind d) (Opens d true && Opens d false) (right (Within d) (ByKind d && (Opens d true && Opens d false)) t))

  -- by the test at the number that decides, of which the file's toggle and registers alone are looked at
  door-place : chosen f (Rows d) ≡ behind_of f C
  unfolding chosen opens seen toggling
  door-place =
      let state : State = toggling f.state.toggle unasked in
      let g : File = seen (indices_at (decider f C)) state in
      let low : C < 5 = omega (arith, within.0, within.1) in
      let same : decider f C ≡ decider g C = same-decides f state C low in
      ap place_of_row (same_first f g refl C (Rows d) by_kind same)
      ∙ same_place (chosen g (Rows d)) (behind_of g C)
      (below (opens state (Rows d) C) (count C) (opens_at f.state.toggle) (decider f C) (bound C low))
      ∙ sym (same-behind f g refl C low same)

-- the rows of a port are those of both chips
shared-kind : (kind : ℕ) → eqb kind 4 ≡ false → (rows : List Row) (chip : Chip) → of_kind kind (rows ++ own_places chip) ≡ of_kind kind rows
unfolding of_kind own_places
shared-kind kind e [] Gd5462 = refl
shared-kind kind e [] Gd5464 = rw e refl
shared-kind kind e (row ∷ rows) chip =
    by-test (eqb kind row.kind)
    (λ t. rw t (ap (λ (l : List Row). row ∷ l) (shared-kind kind e rows chip)))
    (λ t. rw t (shared-kind kind e rows chip))

port-rows : (chip : Chip) (kind address : ℕ) → eqb (kind / 2) 1 ≡ true → rows_at chip kind address ≡ rows_in shared_places kind address
unfolding rows_at rows_in places
port-rows chip kind address e = ap (of_address address) (shared-kind kind (ne_eqb kind 4 (λ (n : kind ≡ 4). four n)) shared_places chip)
  where
    four : kind ≡ 4 → ⊥
    four n = absurd (omega (arith, n, eqb-true (kind / 2) 1 e))

-- an indexed port of the list is open
door-of : (ds : List Door) (kind address cell : ℕ) → T (all_opened ds) → T (is_door ds kind address cell) → T (opened (door kind address cell))
unfolding all_opened is_door same_door
door-of [] kind address cell t i = absurd i
door-of (d ∷ ds) kind address cell t i =
    by-test (same_door d kind address cell)
    (λ e.
    let same : T ((eqb d.kind kind && eqb d.address address) && eqb d.cell cell) = passes (same_door d kind address cell) e in
    let two : T (eqb d.kind kind && eqb d.address address) = left (eqb d.kind kind && eqb d.address address) (eqb d.cell cell) same in
    subst₃ (λ (k a c : ℕ). T (opened (door k a c)))
    (eqb→eq d.kind kind (left (eqb d.kind kind) (eqb d.address address) two))
    (eqb→eq d.address address (right (eqb d.kind kind) (eqb d.address address) two))
    (eqb→eq d.cell cell (right (eqb d.kind kind && eqb d.address address) (eqb d.cell cell) same))
    (left (opened d) (all_opened ds) t))
    (λ e. door-of ds kind address cell (right (opened d) (all_opened ds) t)
    (either (same_door d kind address cell) (is_door ds kind address cell) i (λ s. true≢false (sym (is_true (same_door d kind address cell) s) ∙ e))))

-- behind an indexed port the table has what stands there by the list of places
module _ (f : File) (bound : Indexed f) where
  -- a section's entry, by a number that the index register may hold
  entry : (base n limit : ℕ) (section : List ℕ) → n < limit → base + limit ≤ cell_count → table_cell f.state.chip (base + n) ≡ get_or section n 0
      → get_or section n 0 ≡ get_or (cell_table f.state.chip) (base + n) 0
  entry base n limit section low fits there = sym (at-cell f.state.chip (base + n) (omega (arith, low, fits)) ∙ there)

  -- the same, where the engine takes the number's rest
  rest-entry : (base n limit : ℕ) (section : List ℕ) → n < limit → base + limit ≤ cell_count → table_cell f.state.chip (base + n) ≡ get_or section n 0
      → get_or section n 0 ≡ get_or (cell_table f.state.chip) (base + n % limit) 0
  rest-entry base n limit section low fits there =
      entry base n limit section low fits there ∙ ap (λ (m : ℕ). get_or (cell_table f.state.chip) (base + m) 0) (sym (mod-eq_of_lt low))

  pub behind-true : (c : ℕ) → c < 5 → behind_of f c ≡ get_or (indexed_places (cell_table f.state.chip) f) c Unnamed
  unfolding behind_of indexed_places decider count
  behind-true zero h =
      let low = bound 0 h in
      ap plain_place (rest-entry behind_srx (register f SRX) count_srx (behind_port 0x3C5 count_srx) low (lit≤ tt) (sequencer-cells f.state.chip (register f SRX) low))
  behind-true (suc zero) h =
      let low = bound 1 h in
      ap plain_place (rest-entry behind_crx (register f CRX) count_crx (behind_port 0x3B5 count_crx) low (lit≤ tt) (crtc-cells f.state.chip (register f CRX) low))
  behind-true (suc (suc zero)) h =
      let low = bound 2 h in
      ap plain_place (rest-entry behind_grx (register f GRX) count_grx (behind_port 0x3CF count_grx) low (lit≤ tt) (graphics-cells f.state.chip (register f GRX) low))
  behind-true (suc (suc (suc zero))) h =
      let low = bound 3 h in
      ap plain_place (entry behind_arx (attribute_index f) count_arx (behind_port 0x3C1 count_arx) low (lit≤ tt) (attribute-cells f.state.chip (attribute_index f) low))
  behind-true (suc (suc (suc (suc zero)))) h =
      let low = bound 4 h in
      ap (attribute_place f.state.toggle) (entry behind_arx (attribute_index f) count_arx (behind_port 0x3C1 count_arx) low (lit≤ tt) (attribute-cells f.state.chip (attribute_index f) low))
  behind-true (suc (suc (suc (suc (suc c))))) h = absurd (omega arith)

-- the place of an access that finds something is what its cell names
module _ (f : File) (bound : Indexed f) (kind address : ℕ) where
  abbrev Cell : ℕ
  Cell = held_cell f.state.chip kind address

  abbrev Direct : Row → Bool
  Direct row = ltb (Cell % wider) first_indexed && same_places row.place (plain_place (Cell % wider))

  direct : (row : Row) → row_at f kind address ≡ some row → T (Direct row) → place_at f kind address ≡ cell_place (cell_table f.state.chip) f Cell
  unfolding place_at place_of_row cell_place
  direct row e t =
      rw (e, is_true (ltb (Cell % wider) first_indexed) (left (ltb (Cell % wider) first_indexed) (same_places row.place (plain_place (Cell % wider))) t))
      (same_place row.place (plain_place (Cell % wider)) (right (ltb (Cell % wider) first_indexed) (same_places row.place (plain_place (Cell % wider))) t))

  indexed : T (is_door doors kind address Cell) → place_at f kind address ≡ cell_place (cell_table f.state.chip) f Cell
  unfolding cell_place
  indexed i =
      let t : T (opened (door kind address Cell)) = door-of doors kind address Cell doors-opened i in
      let from = (within f bound (door kind address Cell) t).0 in
      let to = (within f bound (door kind address Cell) t).1 in
      let small : Cell % wider ≡ Cell = mod-eq_of_lt (omega (arith, to)) in
      let high : first_indexed ≤ Cell % wider = omega (arith, small, from) in
      rw (le-ltb (Cell % wider) first_indexed high)
      (place-chosen f kind address ∙ ap (chosen f) (port-rows f.state.chip kind address (is-port f bound (door kind address Cell) t)) ∙ door-place f bound (door kind address Cell) t
      ∙ behind-true f bound (Cell - first_indexed) (omega (arith, from, to))
      ∙ ap (λ (n : ℕ). get_or (indexed_places (cell_table f.state.chip) f) (n - first_indexed) Unnamed) (sym small))

  pub cell-names : kind < 6 → (Cell ≡ nothing_held → ⊥) → place_at f kind address ≡ cell_place (cell_table f.state.chip) f Cell
  cell-names h some-cell = by (outcome f kind address h)
    where
      by : Outcome f kind address → place_at f kind address ≡ cell_place (cell_table f.state.chip) f Cell
      by (nothing e c) = absurd (some-cell c)
      by (held row e k a s) =
          by-test (Direct row) (λ d. direct row e (passes (Direct row) d))
          (λ d. indexed (subst₂ (λ (k a : ℕ). T (is_door doors k a Cell)) k a
          (either (Direct row) (is_door doors row.kind row.address Cell) (spoken row Cell s).place
          (λ t. true≢false (sym (is_true (Direct row) t) ∙ d)))))
