-- 01's table of cells holds the cells of the list of places: inside it by computed tests, outside it nothing is held. Assumes nothing.
use Prim.Native.Nat.{ℕ, zero, suc, ◌+◌, ◌-◌, ◌<◌, ◌≤◌}
use mathlib.Core.Path.{◌≡◌, refl, sym, ap, ◌∙◌, subst}
use mathlib.Core.Bool.{Bool, true, false, cond, true≢false, not, ◌&&◌, ◌||◌}
use mathlib.Core.List.{List, [], ◌∷◌}
use native.Mathlib.Nat.{zero-add}
use native.Mathlib.Omega.{arith}
use borrow.Author.Tests.{lt-leb, lt-ltb, le-ltb, ltb-true, ltb-false, leb-true, leb-false}
use lib.Dec.{T, eqb, leb, ltb, eqb→eq, leb→le, ltb→lt, lit<}
use lib.ListN.{get_or}
use Rattle.bits.proofs.Test.{left, right, either, and-false, by-test, passes, is_true, every_below, below}
use Rattle.file.specs.declared.chip.Chip.{Chip}
use Rattle.file.specs.declared.chip.Chip.TheVariants.{Gd5462, Gd5464}
use Rattle.places.specs.EngineCells.{nothing_held, plain_cell, indexed_cell, of_kind, of_address, rows_in, rows_at, cell_of, held_cell, nothing_at, cell_at, behind_port, first_port, port_count, port_writes, behind_srx, count_srx, behind_crx, count_crx, behind_grx, count_grx, behind_arx, count_arx, config_space, config_count, config_in_mmio, mmio_space, mmio_count, csl_reads, csl_address, csl_count, csl_writes, cell_count, table_cell, tabled, cell_table, port_cell, csl_cell, mmio_cell, config_cell, cell_in}
use Rattle.places.specs.Lookup.{other_way, some_row, held_in, is_wider, inside_in}
use Rattle.places.specs.Places.{Row, places}
use Rattle.places.proofs.NotHeld.{both_ways}
use Rattle.places.proofs.Rows.{every, on-chips}

-- the addresses that the table covers, by kind
unfoldable pub config_range : ℕ → Bool
config_range a = ltb a config_count

unfoldable pub port_range : ℕ → Bool
port_range a = leb first_port a && ltb a (first_port + port_count)

unfoldable pub csl_range : ℕ → Bool
csl_range a = leb csl_address a && ltb a (csl_address + csl_count)

unfoldable pub mmio_range : ℕ → Bool
mmio_range a = ltb a mmio_count || (csl_range a || leb config_in_mmio a && config_range (a - config_in_mmio))

unfoldable pub range : ℕ → ℕ → Bool
range kind = get_or (config_range ∷ config_range ∷ port_range ∷ port_range ∷ mmio_range ∷ mmio_range ∷ []) kind config_range

unfoldable pub covered_of : Chip → ℕ → Bool
covered_of chip kind = every (λ (row : Row). range kind row.address) (of_kind kind (places chip))

all-covered : T (every_below (covered_of Gd5462) 6) × T (every_below (covered_of Gd5464) 6)
unfolding every_below covered_of every range config_range port_range csl_range mmio_range of_kind places
all-covered = (tt, tt)

covered : (chip : Chip) (kind : ℕ) → kind < 6 → T (every (λ (row : Row). range kind row.address) (of_kind kind (places chip)))
unfolding covered_of
covered chip kind h = below (covered_of chip) 6 (on-chips (λ (c : Chip). every_below (covered_of c) 6) all-covered chip) kind h

-- an address outside a rule that every row's passes has no rows
no_rows : (p : ℕ → Bool) (rows : List Row) → T (every (λ (row : Row). p row.address) rows) → (a : ℕ) → p a ≡ false → of_address a rows ≡ []
unfolding every of_address
no_rows p [] t a e = refl
no_rows p (row ∷ rows) t a e =
    by-test (eqb a row.address)
    (λ s. absurd (true≢false (sym (is_true (p a) (subst (λ (b : ℕ). T (p b)) (sym (eqb→eq a row.address (passes (eqb a row.address) s)))
    (left (p row.address) (every (λ (row : Row). p row.address) rows) t))) ∙ e)))
    (λ s. rw s (no_rows p rows (right (p row.address) (every (λ (row : Row). p row.address) rows) t) a e))

-- nor is it held in the other direction, or inside a wider register
module _ (p : ℕ → Bool) (test : Row → Bool) (address : Row → ℕ) where
  abbrev InRange : Row → Bool
  InRange row = not (test row) || p (address row)

  no_row : (rows : List Row) → T (every InRange rows) → (a : ℕ) → p a ≡ false → some_row (λ (row : Row). eqb a (address row) && test row) rows ≡ false
  unfolding every some_row
  no_row [] t a e = refl
  no_row (row ∷ rows) t a e =
      let behind = no_row rows (right (InRange row) (every InRange rows) t) a e in
      by-test (eqb a (address row))
      (λ h. by-test (test row)
      (λ s. absurd (true≢false (sym (is_true (p a) (subst (λ (b : ℕ). T (p b)) (sym (eqb→eq a (address row) (passes (eqb a (address row)) h)))
      (either (not (test row)) (p (address row)) (left (InRange row) (every InRange rows) t) (λ n. rw s at n)))) ∙ e)))
      (λ s. rw (h, s) behind))
      (λ h. rw h behind)

-- the rows of the other direction
abbrev Other : ℕ → Row → Bool
Other kind row = eqb (other_way kind) row.kind

unfoldable pub other_covered : Chip → ℕ → Bool
other_covered chip kind = every (λ (row : Row). not (Other kind row) || range kind row.address) (places chip)

unfoldable pub inside_covered : Chip → ℕ → Bool
inside_covered chip kind = every (λ (row : Row). not (is_wider kind row) || range kind (row.address + 1)) (places chip)

all-other-covered : T (every_below (other_covered Gd5462) 6) × T (every_below (other_covered Gd5464) 6)
unfolding every_below other_covered every range config_range port_range csl_range mmio_range other_way places
all-other-covered = (tt, tt)

all-inside-covered : T (every_below (inside_covered Gd5462) 6) × T (every_below (inside_covered Gd5464) 6)
unfolding every_below inside_covered every range config_range port_range csl_range mmio_range is_wider places
all-inside-covered = (tt, tt)

covered-around : (chip : Chip) (kind : ℕ) → kind < 6
    → T (every (λ (row : Row). not (Other kind row) || range kind row.address) (places chip))
    × T (every (λ (row : Row). not (is_wider kind row) || range kind (row.address + 1)) (places chip))
unfolding other_covered inside_covered
covered-around chip kind h = (
  below (other_covered chip) 6 (on-chips (λ (c : Chip). every_below (other_covered c) 6) all-other-covered chip) kind h,
  below (inside_covered chip) 6 (on-chips (λ (c : Chip). every_below (inside_covered c) 6) all-inside-covered chip) kind h,
)

-- so there is nothing at all
uncovered : (chip : Chip) (kind : ℕ) → kind < 6 → (a : ℕ) → range kind a ≡ false → nothing_held ≡ cell_at chip kind a
unfolding cell_at nothing_at held_cell rows_at rows_in cell_of held_in inside_in
uncovered chip kind h a e =
    sym (rw (
      no_rows (range kind) (of_kind kind (places chip)) (covered chip kind h) a e,
      no_row (range kind) (Other kind) (λ (row : Row). row.address) (places chip) (covered-around chip kind h).0 a e,
      no_row (range kind) (is_wider kind) (λ (row : Row). row.address + 1) (places chip) (covered-around chip kind h).1 a e,
    ) refl)

-- an entry of a table is its rule's
by-rule : (rule : ℕ → ℕ) (n i : ℕ) → i < n → get_or (tabled n rule) i 0 ≡ rule i
unfolding tabled
by-rule rule zero i h = absurd (omega arith)
by-rule rule (suc n) zero h = refl
by-rule rule (suc n) (suc i) h = by-rule (λ (i : ℕ). rule (suc i)) n i (omega arith)

-- two rules with the same entries: a computed test over both
alike : (rule other : ℕ → ℕ) (n : ℕ) → tabled n rule ≡ tabled n other → (i : ℕ) → i < n → rule i ≡ other i
alike rule other n e i h = sym (by-rule rule n i h) ∙ ap (λ (cells : List ℕ). get_or cells i 0) e ∙ by-rule other n i h

-- config space is the same in both directions, as MMIO is below 140h, and stands at 300h of MMIO too: computed tests
same-config : (chip : Chip)
    → (tabled config_count (cell_at chip 0) ≡ tabled config_count (cell_at chip 1))
    × ((tabled config_count (cell_at chip 0) ≡ tabled config_count (λ (i : ℕ). cell_at chip 4 (config_in_mmio + i)))
    × (tabled config_count (cell_at chip 0) ≡ tabled config_count (λ (i : ℕ). cell_at chip 5 (config_in_mmio + i))))
unfolding tabled plain_cell indexed_cell of_kind of_address rows_in rows_at cell_of held_cell nothing_at cell_at other_way some_row held_in is_wider inside_in places
same-config Gd5462 = (refl, (refl, refl))
same-config Gd5464 = (refl, (refl, refl))

same-mmio : (chip : Chip) → tabled mmio_count (held_cell chip 4) ≡ tabled mmio_count (held_cell chip 5)
unfolding tabled plain_cell indexed_cell of_kind of_address rows_in rows_at cell_of held_cell places
same-mmio Gd5462 = refl
same-mmio Gd5464 = refl

module _ (chip : Chip) where
  -- what the table holds at a place
  pub at-cell : (i : ℕ) → i < cell_count → get_or (cell_table chip) i 0 ≡ table_cell chip i
  unfolding cell_table
  at-cell i h = by-rule (table_cell chip) cell_count i h

  -- section by section
  read-cells : (i : ℕ) → i < port_count → table_cell chip i ≡ cell_at chip 2 (first_port + i)
  unfolding table_cell
  read-cells i h = rw (lt-ltb i port_writes h)

  write-cells : (i : ℕ) → i < port_count → table_cell chip (port_writes + i) ≡ cell_at chip 3 (first_port + i)
  unfolding table_cell
  write-cells i h =
      rw (le-ltb (port_writes + i) port_writes (omega arith), lt-ltb (port_writes + i) behind_srx (omega arith)) (ap (cell_at chip 3) (omega arith))

  pub sequencer-cells : (i : ℕ) → i < count_srx → table_cell chip (behind_srx + i) ≡ get_or (behind_port 0x3C5 count_srx) i 0
  unfolding table_cell
  sequencer-cells i h =
      rw (le-ltb (behind_srx + i) port_writes (omega arith), le-ltb (behind_srx + i) behind_srx (omega arith), lt-ltb (behind_srx + i) behind_crx (omega arith))
      (ap (λ (n : ℕ). get_or (behind_port 0x3C5 count_srx) n 0) (omega arith))

  pub crtc-cells : (i : ℕ) → i < count_crx → table_cell chip (behind_crx + i) ≡ get_or (behind_port 0x3B5 count_crx) i 0
  unfolding table_cell
  crtc-cells i h =
      rw (le-ltb (behind_crx + i) port_writes (omega arith), le-ltb (behind_crx + i) behind_srx (omega arith), le-ltb (behind_crx + i) behind_crx (omega arith), lt-ltb (behind_crx + i) behind_grx (omega arith))
      (ap (λ (n : ℕ). get_or (behind_port 0x3B5 count_crx) n 0) (omega arith))

  pub graphics-cells : (i : ℕ) → i < count_grx → table_cell chip (behind_grx + i) ≡ get_or (behind_port 0x3CF count_grx) i 0
  unfolding table_cell
  graphics-cells i h =
      rw (le-ltb (behind_grx + i) port_writes (omega arith), le-ltb (behind_grx + i) behind_srx (omega arith), le-ltb (behind_grx + i) behind_crx (omega arith), le-ltb (behind_grx + i) behind_grx (omega arith), lt-ltb (behind_grx + i) behind_arx (omega arith))
      (ap (λ (n : ℕ). get_or (behind_port 0x3CF count_grx) n 0) (omega arith))

  pub attribute-cells : (i : ℕ) → i < count_arx → table_cell chip (behind_arx + i) ≡ get_or (behind_port 0x3C1 count_arx) i 0
  unfolding table_cell
  attribute-cells i h =
      rw (le-ltb (behind_arx + i) port_writes (omega arith), le-ltb (behind_arx + i) behind_srx (omega arith), le-ltb (behind_arx + i) behind_crx (omega arith), le-ltb (behind_arx + i) behind_grx (omega arith), le-ltb (behind_arx + i) behind_arx (omega arith), lt-ltb (behind_arx + i) config_space (omega arith))
      (ap (λ (n : ℕ). get_or (behind_port 0x3C1 count_arx) n 0) (omega arith))

  config-cells : (i : ℕ) → i < config_count → table_cell chip (config_space + i) ≡ cell_at chip 0 i
  unfolding table_cell
  config-cells i h =
      rw (le-ltb (config_space + i) port_writes (omega arith), le-ltb (config_space + i) behind_srx (omega arith), le-ltb (config_space + i) behind_crx (omega arith), le-ltb (config_space + i) behind_grx (omega arith), le-ltb (config_space + i) behind_arx (omega arith), le-ltb (config_space + i) config_space (omega arith), lt-ltb (config_space + i) mmio_space (omega arith))
      (ap (cell_at chip 0) (omega arith))

  mmio-cells : (i : ℕ) → i < mmio_count → table_cell chip (mmio_space + i) ≡ cell_at chip 4 i
  unfolding table_cell
  mmio-cells i h =
      rw (le-ltb (mmio_space + i) port_writes (omega arith), le-ltb (mmio_space + i) behind_srx (omega arith), le-ltb (mmio_space + i) behind_crx (omega arith), le-ltb (mmio_space + i) behind_grx (omega arith), le-ltb (mmio_space + i) behind_arx (omega arith), le-ltb (mmio_space + i) config_space (omega arith), le-ltb (mmio_space + i) mmio_space (omega arith), lt-ltb (mmio_space + i) csl_reads (omega arith))
      (ap (cell_at chip 4) (omega arith))

  csl-read-cells : (i : ℕ) → i < csl_count → table_cell chip (csl_reads + i) ≡ cell_at chip 4 (csl_address + i)
  unfolding table_cell
  csl-read-cells i h =
      rw (le-ltb (csl_reads + i) port_writes (omega arith), le-ltb (csl_reads + i) behind_srx (omega arith), le-ltb (csl_reads + i) behind_crx (omega arith), le-ltb (csl_reads + i) behind_grx (omega arith), le-ltb (csl_reads + i) behind_arx (omega arith), le-ltb (csl_reads + i) config_space (omega arith), le-ltb (csl_reads + i) mmio_space (omega arith), le-ltb (csl_reads + i) csl_reads (omega arith), lt-ltb (csl_reads + i) csl_writes (omega arith))
      (ap (cell_at chip 4) (omega arith))

  csl-write-cells : (i : ℕ) → i < csl_count → table_cell chip (csl_writes + i) ≡ cell_at chip 5 (csl_address + i)
  unfolding table_cell
  csl-write-cells i h =
      rw (le-ltb (csl_writes + i) port_writes (omega arith), le-ltb (csl_writes + i) behind_srx (omega arith), le-ltb (csl_writes + i) behind_crx (omega arith), le-ltb (csl_writes + i) behind_grx (omega arith), le-ltb (csl_writes + i) behind_arx (omega arith), le-ltb (csl_writes + i) config_space (omega arith), le-ltb (csl_writes + i) mmio_space (omega arith), le-ltb (csl_writes + i) csl_reads (omega arith), le-ltb (csl_writes + i) csl_writes (omega arith))
      (ap (cell_at chip 5) (omega arith))

  -- in both directions, and at 300h of MMIO
  config-both : (i : ℕ) → i < config_count → cell_at chip 0 i ≡ cell_at chip 1 i
  config-both = alike (cell_at chip 0) (cell_at chip 1) config_count (same-config chip).0

  mmio-both : (i : ℕ) → i < mmio_count → cell_at chip 4 i ≡ cell_at chip 5 i
  unfolding other_way
  mmio-both i h = both_ways chip 4 i (lit< tt) (lit< tt) refl (alike (held_cell chip 4) (held_cell chip 5) mmio_count (same-mmio chip) i h)

  config-in-mmio : (i : ℕ) → i < config_count → cell_at chip 0 i ≡ cell_at chip 4 (config_in_mmio + i)
  config-in-mmio = alike (cell_at chip 0) (λ (i : ℕ). cell_at chip 4 (config_in_mmio + i)) config_count (same-config chip).1.0

  config-in-writes : (i : ℕ) → i < config_count → cell_at chip 0 i ≡ cell_at chip 5 (config_in_mmio + i)
  config-in-writes = alike (cell_at chip 0) (λ (i : ℕ). cell_at chip 5 (config_in_mmio + i)) config_count (same-config chip).1.1

  -- ---- the engine finds 01's cells in it

  config-true : (a : ℕ) → (config_cell (cell_table chip) a ≡ cell_at chip 0 a) × (config_cell (cell_table chip) a ≡ cell_at chip 1 a)
  unfolding config_cell range config_range
  config-true a =
      by-test (ltb a config_count)
      (λ e.
      let low : a < config_count = ltb-true a config_count e in
      let here : get_or (cell_table chip) (config_space + a) 0 ≡ cell_at chip 0 a = at-cell (config_space + a) (omega arith) ∙ config-cells a low in
      rw e (here, here ∙ config-both a low))
      (λ e. rw e (uncovered chip 0 (lit< tt) a e, uncovered chip 1 (lit< tt) a e))

  port-true : (write : Bool) (a : ℕ) → port_cell (cell_table chip) write a ≡ cell_at chip (cond write 3 2) a
  unfolding port_cell range port_range
  port-true write a =
      by-test (leb first_port a && ltb a (first_port + port_count))
      (λ e.
      let t = passes (leb first_port a && ltb a (first_port + port_count)) e in
      let from : first_port ≤ a = leb→le first_port a (left (leb first_port a) (ltb a (first_port + port_count)) t) in
      let to : a < first_port + port_count = ltb→lt a (first_port + port_count) (right (leb first_port a) (ltb a (first_port + port_count)) t) in
      let low : a - first_port < port_count = omega arith in
      let back : first_port + (a - first_port) ≡ a = omega arith in
      rw e (inside write low back))
      (λ e. rw e (outside write e))
    where
      inside : (write : Bool) → a - first_port < port_count → first_port + (a - first_port) ≡ a
          → get_or (cell_table chip) (cond write port_writes 0 + (a - first_port)) 0 ≡ cell_at chip (cond write 3 2) a
      inside true low back = at-cell (port_writes + (a - first_port)) (omega arith) ∙ write-cells (a - first_port) low ∙ ap (cell_at chip 3) back
      inside false low back =
          ap (λ (n : ℕ). get_or (cell_table chip) n 0) (zero-add (a - first_port)) ∙ at-cell (a - first_port) (omega arith) ∙ read-cells (a - first_port) low ∙ ap (cell_at chip 2) back

      outside : (write : Bool) → (leb first_port a && ltb a (first_port + port_count)) ≡ false → nothing_held ≡ cell_at chip (cond write 3 2) a
      outside true e = uncovered chip 3 (lit< tt) a e
      outside false e = uncovered chip 2 (lit< tt) a e

  csl-true : (write : Bool) (a : ℕ) → a < config_in_mmio → mmio_count ≤ a → csl_cell (cell_table chip) write a ≡ cell_at chip (cond write 5 4) a
  unfolding csl_cell range mmio_range csl_range
  csl-true write a under over =
      by-test (leb csl_address a && ltb a (csl_address + csl_count))
      (λ e.
      let t = passes (leb csl_address a && ltb a (csl_address + csl_count)) e in
      let from : csl_address ≤ a = leb→le csl_address a (left (leb csl_address a) (ltb a (csl_address + csl_count)) t) in
      let to : a < csl_address + csl_count = ltb→lt a (csl_address + csl_count) (right (leb csl_address a) (ltb a (csl_address + csl_count)) t) in
      let low : a - csl_address < csl_count = omega arith in
      let back : csl_address + (a - csl_address) ≡ a = omega arith in
      rw e (inside write low back))
      (λ e. rw e (outside write (simp (e, le-ltb a mmio_count over, lt-leb config_in_mmio a under))))
    where
      inside : (write : Bool) → a - csl_address < csl_count → csl_address + (a - csl_address) ≡ a
          → get_or (cell_table chip) (cond write csl_writes csl_reads + (a - csl_address)) 0 ≡ cell_at chip (cond write 5 4) a
      inside true low back = at-cell (csl_writes + (a - csl_address)) (omega arith) ∙ csl-write-cells (a - csl_address) low ∙ ap (cell_at chip 5) back
      inside false low back = at-cell (csl_reads + (a - csl_address)) (omega arith) ∙ csl-read-cells (a - csl_address) low ∙ ap (cell_at chip 4) back

      outside : (write : Bool) → mmio_range a ≡ false → nothing_held ≡ cell_at chip (cond write 5 4) a
      outside true e = uncovered chip 5 (lit< tt) a e
      outside false e = uncovered chip 4 (lit< tt) a e

  mmio-true : (a : ℕ) → (mmio_cell (cell_table chip) false a ≡ cell_at chip 4 a) × (mmio_cell (cell_table chip) true a ≡ cell_at chip 5 a)
  unfolding mmio_cell config_cell range mmio_range csl_range config_range
  mmio-true a =
      by-test (ltb a mmio_count)
      (λ e.
      let low : a < mmio_count = ltb-true a mmio_count e in
      let here : get_or (cell_table chip) (mmio_space + a) 0 ≡ cell_at chip 4 a = at-cell (mmio_space + a) (omega arith) ∙ mmio-cells a low in
      rw e (here, here ∙ mmio-both a low))
      (λ e. rw e
      (by-test (leb config_in_mmio a)
      (λ g. rw g
      (by-test (ltb (a - config_in_mmio) config_count)
      (λ h.
      let low : a - config_in_mmio < config_count = ltb-true (a - config_in_mmio) config_count h in
      let up : config_in_mmio ≤ a = leb-true config_in_mmio a g in
      let back : config_in_mmio + (a - config_in_mmio) ≡ a = omega arith in
      let here : get_or (cell_table chip) (config_space + (a - config_in_mmio)) 0 ≡ cell_at chip 0 (a - config_in_mmio) = at-cell (config_space + (a - config_in_mmio)) (omega arith) ∙ config-cells (a - config_in_mmio) low in
      rw h (here ∙ config-in-mmio (a - config_in_mmio) low ∙ ap (cell_at chip 4) back, here ∙ config-in-writes (a - config_in_mmio) low ∙ ap (cell_at chip 5) back))
      (λ h.
      let up : config_in_mmio ≤ a = leb-true config_in_mmio a g in
      let past = le-ltb a (csl_address + csl_count) (omega arith) in
      rw h (uncovered chip 4 (lit< tt) a (simp (e, g, h, past, and-false)), uncovered chip 5 (lit< tt) a (simp (e, g, h, past, and-false))))))
      (λ g. rw g (csl-true false a (leb-false config_in_mmio a g) (ltb-false a mmio_count e), csl-true true a (leb-false config_in_mmio a g) (ltb-false a mmio_count e)))))

  pub cell-true : (kind : ℕ) → kind < 6 → (a : ℕ) → cell_in (cell_table chip) kind a ≡ cell_at chip kind a
  unfolding cell_in
  cell-true zero h a = (config-true a).0
  cell-true (suc zero) h a = (config-true a).1
  cell-true (suc (suc zero)) h a = port-true false a
  cell-true (suc (suc (suc zero))) h a = port-true true a
  cell-true (suc (suc (suc (suc zero)))) h a = (mmio-true a).0
  cell-true (suc (suc (suc (suc (suc zero))))) h a = (mmio-true a).1
  cell-true (suc (suc (suc (suc (suc (suc kind)))))) h a = absurd (omega arith)
