-- The plan's other stages, each from any file that is ready: colours, marks, registers, indices, closing.
-- Assumes nothing.
use Prim.Native.Nat.{ℕ, ◌+◌, ◌%◌, ◌≤◌, ◌<◌}
use mathlib.Core.Path.{◌≡◌, refl, sym, ap, ap₂, ◌∙◌, subst, subst₂}
use mathlib.Core.Bool.{Bool, true, false, cond, not, ◌&&◌}
use mathlib.Core.List.{List, [], ◌∷◌}
use native.Mathlib.Omega.{arith}
use lib.Dec.{T, eqb, leb, le→leb, lit<, eqb→eq}
use lib.ListN.{get_or, length}
use Rattle.bits.specs.Store.{bit, store, within}
use Rattle.bits.proofs.Bit.{bit-lt}
use Rattle.bits.proofs.Test.{left, right, both}
use Rattle.file.specs.declared.chip.Chip.{Chip}
use Rattle.file.specs.declared.palette.Colour.{Colour}
use Rattle.file.specs.declared.palette.Pointer.{Pointer}
use Rattle.file.specs.declared.registers.File.{File}
use Rattle.file.specs.File.{register, with_registers, with_palette, with_bank, with_pointer, with_toggle}
use Rattle.file.specs.Names.{MISC, ARX, PCI04, CR11, CR1A, B0}
use Rattle.file.specs.Palette.{addressed, marks_sound, pointer_sound}
use Rattle.file.specs.Registers.{stored_bits, stored_table}
use Rattle.file.specs.Sound.{all_within, sound}
use Rattle.file.proofs.Soundness.{registers-sound, sound-by, state-sound, pointing-sound, stepping-sound, toggling-sound}
use Rattle.file.specs.State.{state_sound}
use Rattle.places.specs.Lookup.{is_one_of}
use Rattle.access.specs.Access.{palette_up, in_bank}
use Rattle.roads.specs.Roads.{to_pci04, to_cr11, to_b0, to_cr1_a, to_srx, to_grx, to_arx, to_crx, register_roads, index_roads, closing_roads, each_road, but, by_half}
use Rattle.roads.specs.Plan.{toggle_read, pointer_write, open_palette, open_bank, open_sync, entries, colours, marking, indices, closing}
use Rattle.roads.specs.RoadRecords.{write, selecting, along}
use Rattle.roads.specs.Restores.{RunsInto, bytes}
use Rattle.roads.specs.RegisterStage.{with_register, with_flip, index_flips, every_road, SpacesOn, Ready, loose, selectable, brought, passable, on_both, stores, Brings}
use Rattle.roads.specs.ColourStage.{PaletteReady, PaletteOpen, entry_count, entries_in, with_entries, painted, in_range, with_step, write_blue, marks_after, after_stretch}
use Rattle.roads.specs.StageEnds.{coloured, marked_pointer, marked, indexed, closed}
use Rattle.roads.proofs.RegisterStageRuns.{AllLead, roads-bring, arx-leads}
use Rattle.roads.proofs.LookupBySelectors.{selectors_of}
use Rattle.roads.proofs.StretchRuns.{stretch-runs, address-runs}
use Rattle.roads.proofs.RunsCompose.{runs_then}
use Rattle.roads.proofs.ColourStageRuns.{sets-all}
use Rattle.roads.proofs.MarksRun.{steps-run, marked-pointer-sound}
use Rattle.roads.proofs.RoadsLead.{with_index, leads, leading, single-roads-lead, registers-lead, crx-leads}
use Rattle.roads.proofs.OpeningRuns.{config-runs, open-fits}
use Rattle.roads.proofs.ReadyRuns.{at-any, with-sound, wanted-within, ready-runs, ready_with, ready-flipped}
use Rattle.roads.proofs.ToggleReads.{toggle-runs}

-- ---- colours

-- a ready file stays ready while its registers and its chip stay
pub ready-as : (w : List ℕ) (f g : File) → g.registers ≡ f.registers → g.state.chip ≡ f.state.chip → T (state_sound g.state) → Ready w f → Ready w g
unfolding SpacesOn register
ready-as w f g e chip p ready =
    record {
      is_sound =
          sound-by g (subst₂ (λ (c : Chip) (rs : List ℕ). T (all_within (stored_table c) rs)) (sym chip) (sym e) (registers-sound f ready.is_sound)) p;
      on = ap (λ (rs : List ℕ). get_or rs PCI04 0) e ∙ ready.on;
      unlocked = ap (λ (rs : List ℕ). get_or rs CR11 0) e ∙ ready.unlocked;
      misc = ap (λ (rs : List ℕ). get_or rs MISC 0) e ∙ ready.misc;
    }

-- as a plan opens it the palette is up, and the palette or the bank is chosen
pub chosen-up : (w : List ℕ) (f : File) (bank : Bool) → Ready w f → PaletteOpen f bank → PaletteReady f bank
unfolding open_palette open_bank open_sync palette_up in_bank bit
chosen-up w f true ready opens = record { is_sound = ready.is_sound; on = ready.on; up = rw (opens.b0, opens.sync); chosen = rw opens.b0 }
chosen-up w f false ready opens = record { is_sound = ready.is_sound; on = ready.on; up = rw (opens.b0, opens.sync); chosen = rw opens.b0 }

-- a file with the bank chosen next
pub bank-open : (f : File) → T (sound f) → register f CR1A ≡ open_sync → PaletteOpen (with_register B0 open_bank f) true
bank-open f s sync =
    record { b0 = at-any f B0 open_bank B0 s (lit< tt); sync = at-any f B0 open_bank CR1A s (lit< tt) ∙ sync }

-- where there is an entry the marks end at write, blue
ends-blue : (m : ℕ) (cs : List Colour) → 1 ≤ length cs → marks_after m cs ≡ write_blue
unfolding marks_after
ends-blue m [] h = absurd (omega arith)
ends-blue m (c ∷ cs) h = refl

some-entries : (bank : Bool) → 1 ≤ entry_count bank
some-entries true = omega arith
some-entries false = omega arith

-- all entries, from the first on
all-run : (w : List ℕ) (f : File) (bank : Bool) (new : List Colour) → Ready w f → PaletteOpen f bank
    → length (entries_in bank f) ≡ entry_count bank → length new ≡ entry_count bank → T (bytes new)
    → RunsInto f (entries 0 new) (with_step (addressed false (entry_count bank % 256)) write_blue (with_entries bank new f))
unfolding after_stretch painted in_range
all-run w f bank new ready opens old many t =
    subst (λ (g : File). RunsInto f (entries 0 new) g)
    (ap₂ (λ (a : ℕ) (l : List Colour). with_step (addressed false (a % 256)) (marks_after f.state.marks new) (with_entries bank l f)) total
    (sets-all (entries_in bank f) new (old ∙ sym many))
    ∙ ap (λ (m : ℕ). with_step (addressed false (entry_count bank % 256)) m (with_entries bank new f))
    (ends-blue f.state.marks new (omega (arith, many, some-entries bank))))
    (stretch-runs (record { first = 0; colours = new }) f bank ready.is_sound (chosen-up w f bank ready opens)
    (both (leb (0 + length new) (entry_count bank)) (bytes new) (le→leb (0 + length new) (entry_count bank) (omega (arith, many))) t))
  where
    total : 0 + length new ≡ entry_count bank
    total = omega (arith, many)

module _ (w : List ℕ) (palette bank : List Colour) (f : File) (all : length palette ≡ 256) (all_bytes : T (bytes palette))
    (sixteen : length bank ≡ 16) (bank_bytes : T (bytes bank)) (ready : Ready w f) (opens : PaletteOpen f false)
    (many : length f.palette ≡ 256) (few : length f.bank ≡ 16) where
  -- between the two
  abbrev half : File
  half = with_step (addressed false 0) write_blue (with_palette palette f)

  half-ready : Ready w half
  unfolding with_step with_palette addressed marks_sound pointer_sound
  half-ready = ready-as w f half refl refl (stepping-sound (addressed false 0) write_blue f.state tt (state-sound f ready.is_sound)) ready

  switched-ready : Ready w (with_register B0 open_bank half)
  unfolding loose is_one_of with_step with_palette
  switched-ready = ready_with w half B0 open_bank half-ready tt (open-fits f.state.chip).bank

  switched-open : PaletteOpen (with_register B0 open_bank half) true
  unfolding with_step with_palette register
  switched-open = bank-open half half-ready.is_sound opens.sync

  -- the stage
  pub colours-run : RunsInto f (colours palette bank) (coloured palette bank f)
  unfolding colours coloured index_flips with_flip with_register with_registers with_step with_palette with_bank
  colours-run =
      runs_then (entries 0 palette) (write to_b0 open_bank ∷ entries 0 bank) f half (coloured palette bank f)
      (all-run w f false palette ready opens many all all_bytes)
      (runs_then (write to_b0 open_bank ∷ []) (entries 0 bank) half (with_register B0 open_bank half) (coloured palette bank f)
      (ready-runs w half to_b0 open_bank half-ready (single-roads-lead (selectors_of half)).b0 (open-fits f.state.chip).bank)
      (all-run w (with_register B0 open_bank half) true bank switched-ready switched-open few sixteen bank_bytes))

  pub coloured-ready : Ready w (coloured palette bank f)
  unfolding coloured with_register with_registers with_step with_palette addressed marks_sound pointer_sound with_bank
  coloured-ready =
      ready-as w (with_register B0 open_bank half) (coloured palette bank f) refl refl (stepping-sound (addressed false 16) write_blue f.state tt (state-sound f ready.is_sound)) switched-ready

  coloured-open : PaletteOpen (coloured palette bank f) true
  unfolding coloured with_register with_registers with_step with_palette with_bank register
  coloured-open = record { b0 = switched-open.b0; sync = switched-open.sync }

  -- the next stage: the marks
  pub marks-run : (m : ℕ) → T (marks_sound m) → RunsInto (coloured palette bank f) (marking m) (marked m (coloured palette bank f))
  unfolding coloured with_step marked
  marks-run m t = steps-run (coloured palette bank f) true m (chosen-up w (coloured palette bank f) true coloured-ready coloured-open) t

  pub marked-ready : (m : ℕ) → T (marks_sound m) → Ready w (marked m (coloured palette bank f))
  unfolding marked with_step
  marked-ready m t =
      ready-as w (coloured palette bank f) (marked m (coloured palette bank f)) refl refl
      (stepping-sound (marked_pointer m) m (coloured palette bank f).state (both (marks_sound m) (pointer_sound (marked_pointer m)) t (marked-pointer-sound m))
      (state-sound (coloured palette bank f) coloured-ready.is_sound))
      coloured-ready

-- ---- registers

-- a ready file may go every road, by one computed test
pub registers-open : T (every_road passable register_roads)
unfolding every_road passable selectable stores on_both loose is_one_of register_roads stored_bits stored_table within store
registers-open = tt

-- the stage
pub registers-bring : (w : List ℕ) (f : File) → T (all_within (stored_table f.state.chip) w) → Ready w f → f.state.toggle ≡ false → Brings w f register_roads
registers-bring w f s ready t = roads-bring w register_roads f s ready t registers-open (λ v e. registers-lead v)

-- ---- indices

indices-open : (misc : ℕ) → T (every_road passable (index_roads misc))
unfolding every_road passable selectable loose is_one_of index_roads
indices-open misc = tt

indices-lead : (w : List ℕ) → AllLead w (index_roads (get_or w MISC 0))
unfolding leading every_road with_index index_roads by_half
indices-lead w v e =
    both (leads v to_srx) (leads v to_grx && (leads v (to_crx (get_or w MISC 0)) && true)) (single-roads-lead v).srx
    (both (leads v to_grx) (leads v (to_crx (get_or w MISC 0)) && true) (single-roads-lead v).grx
    (both (leads v (to_crx (get_or w MISC 0))) true (crx-leads v (bit 0 (get_or w MISC 0)) (bit-lt 0 (get_or w MISC 0)) (ap (bit 0) e)) tt))

module _ (w : List ℕ) (toggle : Bool) (f : File) (s : T (all_within (stored_table f.state.chip) w)) (ready : Ready w f) (t : f.state.toggle ≡ false) where
  -- SRX, GRX and CRX
  three : Brings w f (index_roads (get_or w MISC 0))
  three = roads-bring w (index_roads (get_or w MISC 0)) f s ready t (indices-open (get_or w MISC 0)) (indices-lead w)

  -- ARX too: data is due then
  four-ready : Ready w (with_flip true (with_register ARX (get_or w ARX 0) (brought w (index_roads (get_or w MISC 0)) f)))
  unfolding loose is_one_of brought with_registers
  four-ready =
      ready-flipped w (with_register ARX (get_or w ARX 0) (brought w (index_roads (get_or w MISC 0)) f)) true
      (ready_with w (brought w (index_roads (get_or w MISC 0)) f) ARX (get_or w ARX 0) three.ready tt (wanted-within f.state.chip w ARX s))

  -- the stage
  pub indices-run : RunsInto f (indices w toggle) (indexed w toggle f)
  unfolding indices indexed index_flips with_flip brought with_register with_registers with_toggle
  indices-run =
      runs_then (along w (index_roads (get_or w MISC 0))) (write to_arx (get_or w ARX 0) ∷ toggle_read (get_or w MISC 0) toggle ∷ [])
      f (brought w (index_roads (get_or w MISC 0)) f) (indexed w toggle f) three.runs
      (runs_then (write to_arx (get_or w ARX 0) ∷ []) (toggle_read (get_or w MISC 0) toggle ∷ [])
      (brought w (index_roads (get_or w MISC 0)) f) (with_flip true (with_register ARX (get_or w ARX 0) (brought w (index_roads (get_or w MISC 0)) f))) (indexed w toggle f)
      (ready-runs w (brought w (index_roads (get_or w MISC 0)) f) to_arx (get_or w ARX 0) three.ready (arx-leads (brought w (index_roads (get_or w MISC 0)) f) t) (wanted-within f.state.chip w ARX s))
      (toggle-runs w (with_flip true (with_register ARX (get_or w ARX 0) (brought w (index_roads (get_or w MISC 0)) f))) toggle four-ready (ap not t)))

  pub indexed-ready : Ready w (indexed w toggle f)
  unfolding indexed with_flip with_toggle
  indexed-ready =
      ready-as w (with_flip true (with_register ARX (get_or w ARX 0) (brought w (index_roads (get_or w MISC 0)) f))) (indexed w toggle f) refl refl
      (toggling-sound toggle _ (state-sound _ four-ready.is_sound)) four-ready

-- ---- closing

-- a sound pointer before red holds nothing
before-red : (p : Pointer) → T (pointer_sound p) → p.next ≡ 0 → addressed p.reading p.address ≡ p
unfolding addressed pointer_sound
before-red p s e =
    let nothing : T (eqb p.green 0 && eqb p.red 0) = rw e at s in
    let red = eqb→eq p.red 0 (right (eqb p.green 0) (eqb p.red 0) nothing) in
    let green = eqb→eq p.green 0 (left (eqb p.green 0) (eqb p.red 0) nothing) in
    λ i. record { address = p.address; reading = p.reading; next = sym e i; red = sym red i; green = sym green i }

module _ (w : List ℕ) (p : Pointer) (f : File) (s : T (all_within (stored_table f.state.chip) w)) (ps : T (pointer_sound p)) (red : p.next ≡ 0) (small : p.address < 256)
    (ready : Ready w f) where
  abbrev pointed : File
  pointed = with_pointer p f

  pointed-ready : Ready w pointed
  unfolding with_pointer
  pointed-ready = ready-as w f pointed refl refl (pointing-sound p f.state ps (state-sound f ready.is_sound)) ready

  b0-ready : Ready w (with_register B0 (get_or w B0 0) pointed)
  unfolding loose is_one_of with_pointer
  b0-ready = ready_with w pointed B0 (get_or w B0 0) pointed-ready tt (wanted-within f.state.chip w B0 s)

  abbrev synced : File
  synced = with_register CR1A (get_or w CR1A 0) (with_register B0 (get_or w B0 0) pointed)

  sync-ready : Ready w synced
  unfolding loose is_one_of with_pointer with_register with_registers
  sync-ready =
      ready_with w (with_register B0 (get_or w B0 0) pointed) CR1A (get_or w CR1A 0) b0-ready tt (wanted-within f.state.chip w CR1A s)

  -- the stage
  pub closing-runs : RunsInto f (closing w p) (closed w p f)
  unfolding closing closed closing_roads along selecting index_flips with_flip with_pointer with_register with_registers
  closing-runs =
      runs_then (pointer_write p ∷ []) (along w closing_roads)
      f pointed (closed w p f)
      (subst (λ (q : Pointer). RunsInto f (pointer_write p ∷ []) (with_pointer q f)) (before-red p ps red)
      (address-runs f p.reading p.address ready.is_sound ready.on small))
      (runs_then (write to_b0 (get_or w B0 0) ∷ []) (write to_cr1_a (get_or w CR1A 0) ∷ write to_cr11 (get_or w CR11 0) ∷ write to_pci04 (get_or w PCI04 0) ∷ [])
      pointed (with_register B0 (get_or w B0 0) pointed) (closed w p f)
      (ready-runs w pointed to_b0 (get_or w B0 0) pointed-ready (single-roads-lead (selectors_of pointed)).b0 (wanted-within f.state.chip w B0 s))
      (runs_then (write to_cr1_a (get_or w CR1A 0) ∷ []) (write to_cr11 (get_or w CR11 0) ∷ write to_pci04 (get_or w PCI04 0) ∷ [])
      (with_register B0 (get_or w B0 0) pointed) synced (closed w p f)
      (ready-runs w (with_register B0 (get_or w B0 0) pointed) to_cr1_a (get_or w CR1A 0) b0-ready
      (single-roads-lead (selectors_of (with_register B0 (get_or w B0 0) pointed))).cr1a (wanted-within f.state.chip w CR1A s))
      (runs_then (write to_cr11 (get_or w CR11 0) ∷ []) (write to_pci04 (get_or w PCI04 0) ∷ [])
      synced (with_register CR11 (get_or w CR11 0) synced) (closed w p f)
      (ready-runs w synced to_cr11 (get_or w CR11 0) sync-ready (single-roads-lead (selectors_of synced)).cr11 (wanted-within f.state.chip w CR11 s))
      (config-runs (with_register CR11 (get_or w CR11 0) synced) (get_or w PCI04 0)
      (with-sound synced CR11 (get_or w CR11 0) sync-ready.is_sound (wanted-within f.state.chip w CR11 s))
      (wanted-within f.state.chip w PCI04 s)))))
