-- A record that goes by a road stores a value within the register's bits exactly, and does nothing else but flip the toggle at 3C0h.
-- Assumes nothing.
use Prim.Native.Nat.{ℕ, ◌≤◌, ◌<◌, ◌^◌, ◌%◌}
use mathlib.Core.Path.{◌≡◌, refl, sym, ap, ap₂, ◌∙◌, subst}
use mathlib.Core.Bool.{Bool, true, false, not, ◌||◌}
use mathlib.Core.Option.{Option, none, some}
use native.Mathlib.Nat.{lt_of_le_of_lt}
use native.Mathlib.Omega.{arith}
use borrow.Author.Tests.{not-true, le-ltb, lt-leb, ne_eqb}
use lib.Dec.{T, eqb, ltb, eqb→eq, leb→le, ltb→lt}
use lib.ListN.{set}
use Rattle.bits.specs.Store.{within}
use Rattle.bits.proofs.Stored.{store-exact, within-le}
use Rattle.bits.proofs.Test.{left, right, is_true}
use Rattle.file.specs.declared.answer.Answer.TheVariants.{Done}
use Rattle.file.specs.declared.chip.Chip.{Chip}
use Rattle.file.specs.declared.chip.Chip.TheVariants.{Gd5462, Gd5464}
use Rattle.file.specs.declared.registers.File.{File}
use Rattle.file.specs.Answers.{code_of}
use Rattle.file.specs.Effects.{apply, store_in}
use Rattle.file.specs.File.{register, with_registers}
use Rattle.file.specs.Registers.{register_count, stored_bits, stored_table}
use Rattle.file.specs.Sound.{sound}
use Rattle.file.proofs.Soundness.{at, registers-sound}
use Rattle.places.specs.declared.place.Place.{Place}
use Rattle.access.specs.Access.{locked_out, reach_in, write_answer, write_effect, answer_at, effect_at, answer, access}
use Rattle.access.specs.Checks.{is_write, is_passing, carries, is_port, bad_access, malformed, space_off, of_other_half}
use Rattle.places.specs.Lookup.{row_at}
use Rattle.places.specs.Places.{Row}
use Rattle.places.specs.Profile.{Writing, stores_to, read_only, sets_address, writes_pixel, stores_nothing, passes_lines, profile, stores_into, flips}
use Rattle.roads.specs.Roads.{Road}
use Rattle.roads.specs.RoadRecords.{write}
use Rattle.roads.specs.Restores.{accepted}
use Rattle.roads.specs.RegisterStage.{with_register, with_flip, index_flips, on_both}
use Rattle.roads.proofs.RoadsLead.{same, finds, leads}
use Rattle.roads.proofs.ChecksPassed.{answered-by-place, does-as-place}
use Rattle.roads.proofs.LookupBySelectors.{selectors_of, bare_file, row_by, half-by}

-- what a test says of both chips it says of each
pub on-chip : (test : Chip → Bool) → T (on_both test) → (chip : Chip) → T (test chip)
unfolding on_both
on-chip test t Gd5462 = left (test Gd5462) (test Gd5464) t
on-chip test t Gd5464 = right (test Gd5462) (test Gd5464) t

-- the lock does not bear on a register
pub record Free (f : File) (number : ℕ) : Type 0 where
  pub unlocked : locked_out f number ≡ false
  pub whole : reach_in f number ≡ stored_bits f.state.chip number

-- a writing that stores into a register of the file is a store
is_store : (writing : Writing) (number : ℕ) → stores_into writing ≡ number → number < register_count → writing ≡ stores_to number (flips writing)
unfolding stores_into flips
is_store (stores_to n flip) number e h = ap (λ (m : ℕ). stores_to m flip) e
is_store read_only number e h = absurd (omega arith)
is_store (sets_address reading) number e h = absurd (omega arith)
is_store writes_pixel number e h = absurd (omega arith)
is_store (stores_nothing flip) number e h = absurd (omega arith)
is_store passes_lines number e h = absurd (omega arith)

-- a write there is accepted
place-done : (f : File) (number : ℕ) → Free f number → (place : Place) → stores_into (profile place).writing ≡ number → number < register_count
    → answer_at true f place ≡ Done 0
unfolding answer_at
place-done f number free place e h = ap (write_answer f) (is_store (profile place).writing number e h) ∙ rw free.unlocked refl

-- and stores the register by its stored bits
place-stores : (f : File) (number value : ℕ) → Free f number → (place : Place) → stores_into (profile place).writing ≡ number → number < register_count
    → apply (effect_at true f place value) f ≡ with_flip (flips (profile place).writing) (store_in number (stored_bits f.state.chip number) value f)
unfolding effect_at apply with_flip
place-stores f number value free place e h =
    ap (λ (w : Writing). apply (write_effect (reach_in f) f w value) f) (is_store (profile place).writing number e h)
    ∙ ap (λ (bits : ℕ). with_flip (flips (profile place).writing) (store_in number bits value f)) free.whole

-- a value within them is held exactly
exactly : (f : File) (number value : ℕ) → T (sound f) → T (within (stored_bits f.state.chip number) value)
    → store_in number (stored_bits f.state.chip number) value f ≡ with_register number value f
unfolding store_in with_register with_registers stored_bits register
exactly f number value s w =
    ap (λ (x : ℕ). with_registers (set f.registers number x) f)
    (store-exact (stored_bits f.state.chip number) (register f number) value (at (stored_table f.state.chip) f.registers number (registers-sound f s)) w)

-- ---- by a road

same-eq : (a b : Bool) → T (same a b) → a ≡ b
unfolding same
same-eq true b t = sym (is_true b t)
same-eq false true t = absurd t
same-eq false false t = refl

-- what a road's record does
pub record Stores (f : File) (road : Road) (value : ℕ) : Type 0 where
  pub done : T (accepted (answer f (write road value)))
  pub file : (access f (write road value)).file ≡ with_flip (index_flips road.index) (with_register road.register value f)

module _ (f : File) (road : Road) (value : ℕ) (l : T (leads (selectors_of f) road)) (s : T (sound f)) (on : space_off f (write road value) ≡ false)
    (free : Free f road.register) (w : T (within (stored_bits f.state.chip road.register) value)) where
  -- the record is a write in good form
  is-write : is_write (write road value) ≡ true
  unfolding is_write leads
  is-write = is_true (eqb (road.kind % 2) 1) (search (left, right) depth 8)

  brings-value : carries (write road value) ≡ true
  unfolding carries
  brings-value = rw is-write

  low-kind : road.kind ≤ 5
  unfolding leads
  low-kind = leb→le road.kind 5 (search (left, right) depth 8)

  -- the register's bits fit the road on both chips
  abbrev Fits : Chip → Bool
  Fits chip = ltb (stored_bits chip road.register) (256 ^ road.width)

  fits : T (on_both Fits)
  unfolding leads
  fits = search (left, right) depth 8

  well-formed : malformed f (write road value) ≡ false
  unfolding malformed is_passing bad_access leads
  well-formed =
      simp (
        le-ltb 6 road.kind (omega (arith, low-kind)),
        ne_eqb road.kind 6 (λ e. omega (arith, low-kind)),
        is_true (eqb road.width 1 || eqb road.width 2) (search (left, right) depth 8),
        is-write,
        lt-leb (256 ^ road.width) value
            (lt_of_le_of_lt (within-le (stored_bits f.state.chip road.register) value w)
            (ltb→lt (stored_bits f.state.chip road.register) (256 ^ road.width) (on-chip Fits fits f.state.chip))),
      )

  -- it finds what the test found
  found_as : row_at f road.kind road.address ≡ row_at (bare_file (selectors_of f)) road.kind road.address
  found_as = sym (row_by f road.kind road.address)

  matches-half : of_other_half f (write road value) ≡ false
  unfolding leads of_other_half is_port
  matches-half =
      sym (half-by f (write road value))
      ∙ not-true (of_other_half (bare_file (selectors_of f)) (write road 0))
      (is_true (not (of_other_half (bare_file (selectors_of f)) (write road 0))) (search (left, right) depth 8))

  stores-by : (o : Option Row) → row_at f road.kind road.address ≡ o → T (finds road o) → Stores f road value
  unfolding finds leads accepted code_of effect_at
  stores-by none e t = absurd t
  stores-by (some row) e t =
      record {
        done = rw done tt;
        file =
            (rw brings-value at (does-as-place f (write road value) row 0 e done))
            ∙ place-stores f road.register value free row.place into small
            ∙ ap₂ with_flip moves (exactly f road.register value s w);
      }
    where
      into : stores_into (profile row.place).writing ≡ road.register
      into = eqb→eq (stores_into (profile row.place).writing) road.register (search (left, right))

      moves : flips (profile row.place).writing ≡ index_flips road.index
      moves = same-eq (flips (profile row.place).writing) (index_flips road.index) (search (left, right))

      small : road.register < register_count
      small = ltb→lt road.register register_count (search (left, right) depth 8)

      done : answer f (write road value) ≡ Done 0
      done =
          answered-by-place f (write road value) row
          (record {
            is_sound = s;
            formed = well-formed;
            on = on;
            found = e;
            half = matches-half;
            width = is_true (eqb row.width road.width) (search (left, right));
          })
          ∙ rw brings-value (place-done f road.register free row.place into small)

  -- a record by a road that leads to its register is accepted, and stores the value
  pub road-stores : Stores f road value
  unfolding leads
  road-stores =
      stores-by (row_at f road.kind road.address) refl
      (subst (λ (o : Option Row). T (finds road o)) (sym found_as) (search (left, right) depth 8))
