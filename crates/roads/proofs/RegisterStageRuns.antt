-- The stage of registers, over any list of roads: every record is accepted, what the list names holds the wanted value, and all else is as
-- before, but for the index registers that the roads move. Assumes nothing.
use Prim.Native.Nat.{ℕ, ◌<◌}
use mathlib.Core.Path.{◌≡◌, refl, sym, ap, ◌∙◌, subst}
use mathlib.Core.Bool.{Bool, true, false, not, ◌&&◌, ◌||◌}
use mathlib.Core.List.{List, [], ◌∷◌, ◌++◌, append_assoc}
use borrow.Author.Tests.{eqb-true, eqb-false}
use lib.Dec.{T, eqb, T_not, eqb_refl, lit<}
use lib.ListN.{get_or, set, length, length-set}
use lib.Seq.{get_or-set_same, get_or-set_other}
use Rattle.bits.specs.Store.{within}
use Rattle.bits.proofs.Test.{left, right, by-test}
use Rattle.file.specs.declared.chip.Chip.{Chip}
use Rattle.file.specs.declared.registers.File.{File}
use Rattle.file.specs.File.{register, with_registers, with_toggle}
use Rattle.file.specs.Names.{MISC, SRX, CRX, GRX, ARX}
use Rattle.file.specs.Registers.{stored_bits, stored_table}
use Rattle.file.specs.Sound.{all_within}
use Rattle.places.specs.Lookup.{is_one_of}
use Rattle.access.specs.declared.record.Record.{Record}
use Rattle.places.specs.Places.{Index, any, sr, cr, gr, ar, index_due, data_due}
use Rattle.roads.specs.Roads.{Road, to_srx, to_grx, to_arx}
use Rattle.roads.specs.RoadRecords.{write, selecting, along}
use Rattle.roads.specs.Restores.{RunsInto}
use Rattle.roads.specs.RegisterStage.{with_register, with_flip, index_flips, every_road, Ready, loose, after_selecting, stores, selectable, selected, after_roads, brought, passable, moves, ends_wanted, leaves_alone, Brings}
use Rattle.roads.proofs.LookupBySelectors.{Selectors, selectors_of}
use Rattle.roads.proofs.RunsCompose.{runs_none, runs_then}
use Rattle.roads.proofs.RoadsLead.{with_index, leads, leading, single-roads-lead}
use Rattle.roads.proofs.RoadStores.{on-chip}
use Rattle.roads.proofs.ReadyRuns.{selectors-with, wanted-within, ready-runs, ready_with, ready-flipped}

-- ---- selecting an index

-- 3C0h, with the toggle at index
pub arx-leads : (f : File) → f.state.toggle ≡ false → T (leads (selectors_of f) to_arx)
unfolding with_index selectors_of
arx-leads f t = subst (λ (b : Bool). T (leads (shows b) to_arx)) (sym t) (single-roads-lead (selectors_of f)).arx
  where
    shows : Bool → Selectors
    shows b =
        record { misc = register f MISC; srx = register f SRX; crx = register f CRX; grx = register f GRX; arx = register f ARX; toggle = b; chip = f.state.chip }

-- what selecting leaves
pub record Selected (w : List ℕ) (f : File) (i : Index) : Type 0 where
  pub runs : RunsInto f (selecting i) (selected i f)
  pub ready : Ready w (selected i f)
  pub selectors : selectors_of (selected i f) ≡ with_index i (selectors_of f)

-- by the index register's own road
select-by : (w : List ℕ) (f : File) (to : Road) (n : ℕ) → Ready w f → T (leads (selectors_of f) to) → T (loose to.register)
    → T (within (stored_bits f.state.chip to.register) n)
    → RunsInto f (write to n ∷ []) (with_flip (index_flips to.index) (with_register to.register n f))
    × Ready w (with_flip (index_flips to.index) (with_register to.register n f))
select-by w f to n ready l free fit = (
  ready-runs w f to n ready l fit,
  ready-flipped w (with_register to.register n f) (index_flips to.index) (ready_with w f to.register n ready free fit),
)

stored_on : (f : File) (number n : ℕ) → T (stores number n) → T (within (stored_bits f.state.chip number) n)
unfolding stores
stored_on f number n t = on-chip (λ (chip : Chip). within (stored_bits chip number) n) t f.state.chip

select : (w : List ℕ) (f : File) (i : Index) → Ready w f → f.state.toggle ≡ false → T (selectable i) → Selected w f i
unfolding selecting selected after_selecting selectable stores index_flips with_flip loose is_one_of with_register with_registers with_toggle register with_index selectors_of
select w f any ready t s = record { runs = runs_none f; ready = ready; selectors = refl }
select w f (sr n) ready t s =
    let by = select-by w f to_srx n ready (single-roads-lead (selectors_of f)).srx tt (stored_on f SRX n s) in
    record { runs = by.0; ready = by.1; selectors = selectors-with f SRX n ready.is_sound (lit< tt) }
select w f (cr n) ready t s = absurd s
select w f (gr n) ready t s =
    let by = select-by w f to_grx n ready (single-roads-lead (selectors_of f)).grx tt (stored_on f GRX n s) in
    record { runs = by.0; ready = by.1; selectors = selectors-with f GRX n ready.is_sound (lit< tt) }
select w f (ar n) ready t s = absurd s
select w f index_due ready t s = absurd s
select w f (data_due n) ready t s =
    let by = select-by w f to_arx n ready (arx-leads f t) tt (stored_on f ARX n s) in
    record {
      runs = by.0;
      ready = by.1;
      selectors =
          rw t
          (ap (λ (v : Selectors). record { misc = v.misc; srx = v.srx; crx = v.crx; grx = v.grx; arx = v.arx; toggle = true; chip = v.chip })
          (selectors-with f ARX n ready.is_sound (lit< tt)));
    }

-- ---- a road, and a list of roads

-- its index selected, the register stored: the toggle is back where it was
road-ends : (w : List ℕ) (f : File) (i : Index) (number value : ℕ) → f.state.toggle ≡ false → T (selectable i)
    → with_flip (index_flips i) (with_register number value (selected i f)) ≡ with_registers (set (after_selecting i f.registers) number value) f
unfolding with_registers with_toggle with_flip index_flips with_register after_selecting selected selectable
road-ends w f any number value t s = refl
road-ends w f (sr n) number value t s = refl
road-ends w f (cr n) number value t s = absurd s
road-ends w f (gr n) number value t s = refl
road-ends w f (ar n) number value t s = absurd s
road-ends w f index_due number value t s = absurd s
road-ends w f (data_due n) number value t s = rw t

-- the records of a road, and of those behind it
pub along-behind : (w : List ℕ) (road : Road) (roads : List Road) → along w (road ∷ []) ++ along w roads ≡ along w (road ∷ roads)
unfolding along
along-behind w road roads = append_assoc (selecting road.index) (write road (get_or w road.register 0) ∷ []) (along w roads)

-- every road leads to its register, with its index selected, in a file that shows the wanted MISC
abbrev pub AllLead : List ℕ → List Road → Type 0
AllLead w roads = (v : Selectors) → v.misc ≡ get_or w MISC 0 → T (leading v roads)

module _ (w : List ℕ) where
  -- one road
  road-brings : (f : File) → T (all_within (stored_table f.state.chip) w) → (road : Road) → Ready w f → f.state.toggle ≡ false → T (passable road) → T (leads (with_index road.index (selectors_of f)) road)
      → Brings w f (road ∷ [])
  unfolding along brought after_roads passable selected with_flip with_register with_registers
  road-brings f s road ready t o l =
      record {
        runs =
            runs_then (selecting road.index) (write road (get_or w road.register 0) ∷ []) f (selected road.index f)
            (brought w (road ∷ []) f) sel.runs
            (subst (λ (g : File). RunsInto (selected road.index f) (write road (get_or w road.register 0) ∷ []) g) ends stores);
        ready = subst (λ (g : File). Ready w g) ends after;
      }
    where
      chosen : T (selectable road.index)
      chosen = left (selectable road.index) (loose road.register) o

      sel : Selected w f road.index
      sel = select w f road.index ready t chosen

      fit : T (within (stored_bits f.state.chip road.register) (get_or w road.register 0))
      fit = wanted-within f.state.chip w road.register s

      ends : with_flip (index_flips road.index) (with_register road.register (get_or w road.register 0) (selected road.index f)) ≡ brought w (road ∷ []) f
      ends = road-ends w f road.index road.register (get_or w road.register 0) t chosen

      stores : RunsInto (selected road.index f) (write road (get_or w road.register 0) ∷ [])
          (with_flip (index_flips road.index) (with_register road.register (get_or w road.register 0) (selected road.index f)))
      stores =
          ready-runs w (selected road.index f) road (get_or w road.register 0) sel.ready
          (subst (λ (v : Selectors). T (leads v road)) (sym sel.selectors) l) fit

      after : Ready w (with_flip (index_flips road.index) (with_register road.register (get_or w road.register 0) (selected road.index f)))
      after =
          ready-flipped w (with_register road.register (get_or w road.register 0) (selected road.index f)) (index_flips road.index)
          (ready_with w (selected road.index f) road.register (get_or w road.register 0) sel.ready (search (left, right)) fit)

  -- any list of roads
  pub roads-bring : (roads : List Road) (f : File) → T (all_within (stored_table f.state.chip) w) → Ready w f → f.state.toggle ≡ false → T (every_road passable roads) → AllLead w roads → Brings w f roads
  unfolding along brought after_roads every_road leading selectors_of with_registers
  roads-bring [] f s ready t o lead = record { runs = runs_none f; ready = ready }
  roads-bring (road ∷ roads) f s ready t o lead =
      let first = road-brings f s road ready t (left (passable road) (every_road passable roads) o)
      (left (leads (with_index road.index (selectors_of f)) road) _ (lead (selectors_of f) ready.misc)) in
      let rest = roads-bring roads (brought w (road ∷ []) f) s first.ready t (right (passable road) (every_road passable roads) o)
      (λ v e. right (leads (with_index road.index v) road) _ (lead v e)) in
      record {
        runs =
            subst (λ (rs : List Record). RunsInto f rs (brought w (road ∷ roads) f))
            (along-behind w road roads)
            (runs_then (along w (road ∷ [])) (along w roads) f (brought w (road ∷ []) f) (brought w (road ∷ roads) f) first.runs rest.runs);
        ready = rest.ready;
      }

-- ---- what they leave in the registers

differ : (m n : ℕ) → T (not (eqb m n)) → n ≡ m → ⊥
differ m n h e = T_not (eqb m n) h (subst (λ (x : ℕ). T (eqb x n)) e (eqb_refl n))

select-keeps : (i : Index) (registers : List ℕ) (n : ℕ) → T (not (eqb (moves i) n))
    → get_or (after_selecting i registers) n 0 ≡ get_or registers n 0
unfolding after_selecting moves
select-keeps any registers n h = refl
select-keeps (sr m) registers n h = get_or-set_other registers SRX n m 0 (differ SRX n h)
select-keeps (cr m) registers n h = refl
select-keeps (gr m) registers n h = get_or-set_other registers GRX n m 0 (differ GRX n h)
select-keeps (ar m) registers n h = refl
select-keeps index_due registers n h = refl
select-keeps (data_due m) registers n h = get_or-set_other registers ARX n m 0 (differ ARX n h)

select-length : (i : Index) (registers : List ℕ) → length (after_selecting i registers) ≡ length registers
unfolding after_selecting
select-length any registers = refl
select-length (sr m) registers = length-set registers SRX m
select-length (cr m) registers = refl
select-length (gr m) registers = length-set registers GRX m
select-length (ar m) registers = refl
select-length index_due registers = refl
select-length (data_due m) registers = length-set registers ARX m

-- as many registers as before
pub after-length : (w : List ℕ) (roads : List Road) (registers : List ℕ) → length (after_roads w roads registers) ≡ length registers
unfolding after_roads
after-length w [] registers = refl
after-length w (road ∷ roads) registers =
    after-length w roads (set (after_selecting road.index registers) road.register (get_or w road.register 0))
    ∙ length-set (after_selecting road.index registers) road.register (get_or w road.register 0)
    ∙ select-length road.index registers

-- one list of roads behind another
pub after-append : (w : List ℕ) (a b : List Road) (registers : List ℕ) → after_roads w (a ++ b) registers ≡ after_roads w b (after_roads w a registers)
unfolding after_roads
after-append w [] b registers = refl
after-append w (road ∷ a) b registers =
    after-append w a b (set (after_selecting road.index registers) road.register (get_or w road.register 0))

pub ends-wanted : (w : List ℕ) (roads : List Road) (registers : List ℕ) (n : ℕ) (held : Bool) → n < length registers
    → (T held → get_or registers n 0 ≡ get_or w n 0) → T (ends_wanted roads n held) → get_or (after_roads w roads registers) n 0 ≡ get_or w n 0
unfolding after_roads ends_wanted
ends-wanted w [] registers n held h e t = e t
ends-wanted w (road ∷ roads) registers n held h e t =
    ends-wanted w roads (set (after_selecting road.index registers) road.register (get_or w road.register 0)) n
    (eqb road.register n || held && not (eqb (moves road.index) n))
    (rw (length-set, select-length road.index registers) h)
    (λ held'. by-test (eqb road.register n) stored (kept held')) t
  where
    stored : eqb road.register n ≡ true
        → get_or (set (after_selecting road.index registers) road.register (get_or w road.register 0)) n 0 ≡ get_or w n 0
    stored q =
        rw (eqb-true road.register n q)
        (get_or-set_same (after_selecting road.index registers) n (get_or w n 0) 0 (rw (select-length road.index registers) h))

    kept : T (eqb road.register n || held && not (eqb (moves road.index) n)) → eqb road.register n ≡ false
        → get_or (set (after_selecting road.index registers) road.register (get_or w road.register 0)) n 0 ≡ get_or w n 0
    kept held' q =
        let still : T (held && not (eqb (moves road.index) n)) = rw q at held' in
        get_or-set_other (after_selecting road.index registers) road.register n (get_or w road.register 0) 0 (λ x. eqb-false road.register n q (sym x))
        ∙ select-keeps road.index registers n (right held (not (eqb (moves road.index) n)) still)
        ∙ e (left held (not (eqb (moves road.index) n)) still)

pub left_alone : (w : List ℕ) (roads : List Road) (registers : List ℕ) (n : ℕ) → T (leaves_alone roads n)
    → get_or (after_roads w roads registers) n 0 ≡ get_or registers n 0
unfolding after_roads leaves_alone
left_alone w [] registers n t = refl
left_alone w (road ∷ roads) registers n t =
    left_alone w roads (set (after_selecting road.index registers) road.register (get_or w road.register 0)) n (search (left, right))
    ∙ get_or-set_other (after_selecting road.index registers) road.register n (get_or w road.register 0) 0
    (differ road.register n (search (left, right)))
    ∙ select-keeps road.index registers n (search (left, right))
