-- The sets counted and their lines stored, set by set. Assumes nothing.
use Rattle.std.specs.Prelude.{Some, None, Ok, Err}
use Prim.Native.Nat.{ℕ, ◌+◌, ◌-◌, ◌*◌, ◌%◌, ◌≤◌, ◌<◌, min}
use mathlib.Core.List.{List, [], ◌∷◌, ◌++◌}
use mathlib.Core.Path.{◌≡◌, refl, sym, ap, ◌∙◌}
use native.Mathlib.Omega.{arith}
use Rattle.std.proofs.lemmas.List.{append-nil, append_assoc, drop_at, nil_from_length}
use lib.ListN.{length, length-append, drop}
use lib.Seq.{sets, length-sets}
use Rattle.text.specs.Lent.{Wrote}
use Rattle.text.proofs.Stores.{rest-stored}
use Rattle.clock_text.specs.declared.tally.Tally.{Tally}
use Rattle.clock_text.specs.Parts.{Countable, LinesPut}
use Rattle.clock_text.specs.Report.{clock_line, clock_lines}
use Rattle.clock_text.specs.Sets.{SetClock, counting, set_clocks, set_count, set_of, tallied}
use Rattle.clock_text.proofs.Lengths.{lines-most}
use Rattle.clock_text.proofs.SetsInTurn.{chunk_count, chunk_set}

-- one set more, and one less to come
countable-next : (t : Tally) (c : SetClock) (k : ℕ) → Countable t (k + 1) → Countable (counting t c) k
unfolding counting
countable-next t (Ok (Some new)) k h = record { rates = omega (arith, h.rates); nones = omega (arith, h.nones); refused = omega (arith, h.refused) }
countable-next t (Ok None) k h = record { rates = omega (arith, h.rates); nones = omega (arith, h.nones); refused = omega (arith, h.refused) }
countable-next t (Err answer) k h = record { rates = omega (arith, h.rates); nones = omega (arith, h.nones); refused = omega (arith, h.refused) }

-- a set stands next of those that are left: three bytes, or the fewer that are the last
pub record SetNext (left set rest : List ℕ) : Type 0 where
  pub whole : left ≡ set ++ rest
  pub few : length set ≡ min 3 (length left)
  pub some : 0 < length left

pub three-next : (left set rest : List ℕ) → left ≡ set ++ rest → length set ≡ 3 → SetNext left set rest
three-next left set rest e three =
    let size = ap length e ∙ length-append set rest in
    record { whole = e; few = omega (arith, size, three); some = omega (arith, size, three) }

-- the input is whole sets and what is left
pub record WholeSets (input left : List ℕ) : Type 0 where
  front : List ℕ
  pub whole : input ≡ front ++ left
  pub threes : length front % 3 ≡ 0

pub whole-none : (input : List ℕ) → WholeSets input input
whole-none input = record { front = []; whole = refl; threes = refl }

module _ (input left : List ℕ) (behind : WholeSets input left) where
  -- behind one more
  pub whole-next : (set rest : List ℕ) → left ≡ set ++ rest → length set ≡ 3 → WholeSets input rest
  whole-next set rest e three =
      record {
        front = behind.front ++ set;
        whole = behind.whole ∙ ap (λ (l : List ℕ). behind.front ++ l) e ∙ sym (append_assoc behind.front set rest);
        threes = omega (arith, behind.threes, length-append behind.front set, three);
      }

  -- where less than a set is left, it is the fragment that the input ends in
  module _ (fewer : length left < 3) (fragment : List ℕ) (last : fragment ≡ drop (length input - length input % 3) input) where
    pub fragment-left : fragment ≡ left
    fragment-left =
        let size = ap length behind.whole ∙ length-append behind.front left in
        last
        ∙ ap (drop (length input - length input % 3)) behind.whole
        ∙ drop_at behind.front left (length input - length input % 3) (omega (arith, size, behind.threes, fewer))

    -- and the next set, if it has a byte
    pub fragment-next : (length fragment ≡ 0 → ⊥) → SetNext left fragment []
    fragment-next some =
        let size = ap length fragment-left in
        record { whole = sym fragment-left ∙ sym (append-nil fragment); few = omega (arith, size, fewer); some = omega (arith, size, some) }

-- behind some sets: what is left, counted and stored, gives the whole
pub record Putting (before : Tally) (input lines₀ lines : List ℕ) (tally : Tally) (end : ℕ) (left : List ℕ) : Type 0 where
  pub counted : tallied tally (set_clocks left) ≡ tallied before (set_clocks input)
  pub stored : sets lines end (clock_lines (set_clocks left)) ≡ sets lines₀ 0 (clock_lines (set_clocks input))
  pub place : end + length (clock_lines (set_clocks left)) ≡ length (clock_lines (set_clocks input))
  pub long : length lines ≡ length lines₀
  pub room : Countable tally (set_count left)

module _ (before : Tally) (input lines₀ : List ℕ) where
  pub putting-none : Countable before (set_count input) → Putting before input lines₀ lines₀ before 0 input
  putting-none room = record { counted = refl; stored = refl; place = omega arith; long = refl; room = room }

  module _ (lines : List ℕ) (tally : Tally) (end : ℕ) (left : List ℕ) (held : Putting before input lines₀ lines tally end left) where
    -- the next set
    module _ (set rest : List ℕ) (is : SetNext left set rest) where
      short : length set ≡ min 3 (length set + length rest)
      short = is.few ∙ ap (min 3) (ap length is.whole ∙ length-append set rest)

      there : 0 < length set
      there = omega (arith, is.few, is.some)

      next : set_clocks left ≡ set_of set ∷ set_clocks rest
      next = ap set_clocks is.whole ∙ chunk_set set rest short there

      count : set_count left ≡ set_count rest + 1
      count = ap set_count is.whole ∙ chunk_count set rest short there

      line-next : length (clock_lines (set_clocks left)) ≡ length (clock_line (set_of set)) + length (clock_lines (set_clocks rest))
      unfolding clock_lines
      line-next = ap (λ (cs : List SetClock). length (clock_lines cs)) next ∙ length-append (clock_line (set_of set)) (clock_lines (set_clocks rest))

      -- has numbers, and its line has room
      pub counts-one : Countable tally 1
      counts-one =
          record { rates = omega (arith, held.room.rates, count); nones = omega (arith, held.room.nones, count); refused = omega (arith, held.room.refused, count) }

      pub line-fits : 15 * set_count input ≤ length lines₀ → end + length (clock_line (set_of set)) ≤ length lines
      line-fits wide = omega (arith, line-next, held.place, held.long, lines-most input, wide)

      pub set-fits : 15 * set_count input ≤ length lines₀ → Countable tally 1 × (end + length (clock_line (set_of set)) ≤ length lines)
      set-fits wide = (counts-one, line-fits wide)

      pub putting-next : (lines' : List ℕ) (end' : ℕ) → Wrote lines end (clock_line (set_of set)) lines' end'
          → Putting before input lines₀ lines' (counting tally (set_of set)) end' rest
      unfolding clock_lines tallied
      putting-next lines' end' wrote =
          record {
            counted = ap (tallied tally) (sym next) ∙ held.counted;
            stored =
                rest-stored (clock_lines (set_clocks rest)) wrote
                ∙ ap (λ (cs : List SetClock). sets lines end (clock_lines cs)) (sym next)
                ∙ held.stored;
            place = omega (arith, wrote.place, line-next, held.place);
            long = ap length wrote.bytes ∙ length-sets lines end (clock_line (set_of set)) ∙ held.long;
            room = countable-next tally (set_of set) (set_count rest) (rw count at held.room);
          }

    -- none is left
    pub putting-all : length left ≡ 0 → LinesPut before input lines₀ lines (record { tally = tally; end = end })
    unfolding set_clocks clock_lines tallied
    putting-all none =
        let gone = nil_from_length left none in
        record {
          tally = rw gone at held.counted;
          wrote = record { bytes = rw gone at held.stored; place = omega (arith, rw gone at held.place) };
        }
