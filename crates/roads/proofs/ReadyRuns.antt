-- One record by a road, in a file that is ready: it is accepted, stores its value, and leaves the file ready.
-- Assumes nothing.
use Prim.Native.Nat.{ℕ, ◌<◌}
use mathlib.Core.Path.{◌≡◌, refl, ◌∙◌, subst}
use mathlib.Core.Bool.{Bool, true, false, cond, ◌&&◌}
use mathlib.Core.List.{List, [], ◌∷◌}
use borrow.Author.Tests.{eqb-true, eqb-false}
use lib.Dec.{T, eqb, leb, T_not}
use lib.ListN.{get_or, set}
use lib.Seq.{get_or-set_same, get_or-set_other}
use Rattle.bits.specs.Store.{bit, within}
use Rattle.bits.proofs.Test.{both, by-test}
use Rattle.file.specs.declared.chip.Chip.{Chip}
use Rattle.file.specs.declared.registers.File.{File}
use Rattle.file.specs.File.{register, crtc_locked, with_registers, with_toggle}
use Rattle.file.specs.Names.{MISC, SRX, CRX, GRX, ARX, PCI04, CR0, CR6, CR7, CR11}
use Rattle.file.specs.State.{state_sound}
use Rattle.file.specs.Registers.{register_count, stored_bits, stored_table}
use Rattle.file.specs.Sound.{all_within, sound}
use Rattle.file.proofs.Soundness.{at, set-within, registers-sound, sound-count, state-sound}
use Rattle.places.specs.Lookup.{is_one_of}
use Rattle.access.specs.declared.record.Record.{Record}
use Rattle.access.specs.Access.{locked_out, reach_in}
use Rattle.access.specs.Checks.{is_port, is_mmio, space_off}
use Rattle.roads.specs.Roads.{Road}
use Rattle.roads.specs.Plan.{open_spaces, open_lock}
use Rattle.roads.specs.RoadRecords.{write}
use Rattle.roads.specs.Restores.{RunsInto}
use Rattle.roads.specs.RegisterStage.{with_register, with_flip, index_flips, SpacesOn, Ready, loose}
use Rattle.roads.proofs.LookupBySelectors.{selectors_of}
use Rattle.roads.proofs.RunsCompose.{runs-one}
use Rattle.roads.proofs.RoadsLead.{leads}
use Rattle.roads.proofs.RoadStores.{Free, road-stores}

-- ---- one register anew

pub at_same : (f : File) (number value : ℕ) → T (sound f) → number < register_count → register (with_register number value f) number ≡ value
unfolding register with_register with_registers
at_same f number value s h = get_or-set_same f.registers number value 0 (rw (sound-count f s) h)

pub at_other : (f : File) (number value n : ℕ) → (n ≡ number → ⊥) → register (with_register number value f) n ≡ register f n
unfolding register with_register with_registers
at_other f number value n h = get_or-set_other f.registers number n value 0 h

pub at-any : (f : File) (number value n : ℕ) → T (sound f) → number < register_count
    → register (with_register number value f) n ≡ cond (eqb n number) value (register f n)
at-any f number value n s h =
    by-test (eqb n number)
    (λ e. rw (e, eqb-true n number e) (at_same f number value s h)) (λ e. rw e (at_other f number value n (eqb-false n number e)))

-- what the file then shows
pub selectors-with : (f : File) (number value : ℕ) → T (sound f) → number < register_count
    → selectors_of (with_register number value f)
    ≡ record {
      misc = cond (eqb MISC number) value (register f MISC);
      srx = cond (eqb SRX number) value (register f SRX);
      crx = cond (eqb CRX number) value (register f CRX);
      grx = cond (eqb GRX number) value (register f GRX);
      arx = cond (eqb ARX number) value (register f ARX);
      toggle = f.state.toggle;
      chip = f.state.chip;
    }
unfolding selectors_of with_register with_registers
selectors-with f number value s h =
    rw (at-any f number value MISC s h, at-any f number value SRX s h, at-any f number value CRX s h, at-any f number value GRX s h, at-any f number value ARX s h)

pub with-sound : (f : File) (number value : ℕ) → T (sound f) → T (within (stored_bits f.state.chip number) value) → T (sound (with_register number value f))
unfolding sound with_register with_registers stored_bits
with-sound f number value s w =
    both (all_within (stored_table f.state.chip) (set f.registers number value)) (state_sound f.state)
    (set-within (stored_table f.state.chip) f.registers number value (registers-sound f s) w) (state-sound f s)

-- registers that are within their stored bits are so one by one
pub wanted-within : (chip : Chip) (w : List ℕ) (number : ℕ) → T (all_within (stored_table chip) w) → T (within (stored_bits chip number) (get_or w number 0))
unfolding stored_bits
wanted-within chip w number s = at (stored_table chip) w number s

-- ---- in a ready file

pub spaces-on : (f : File) (r : Record) → SpacesOn f → space_off f r ≡ false
unfolding SpacesOn open_spaces space_off bit
spaces-on f r on = rw on (by-test (is_port r) (λ e. rw e (none (is_mmio r))) (λ e. rw e (none (is_mmio r))))
  where
    none : (b : Bool) → (b && false) ≡ false
    none true = refl
    none false = refl

pub unlocked-free : (f : File) (number : ℕ) → register f CR11 ≡ open_lock → Free f number
unfolding open_lock locked_out reach_in crtc_locked bit
unlocked-free f number e = record { unlocked = rw e; whole = rw e }

-- PCI04 and CR11 are none of CR0 to CR7
pub beyond-lock : (f : File) (number : ℕ) → eqb number CR7 ≡ false → (leb CR0 number && leb number CR6) ≡ false → Free f number
unfolding locked_out reach_in
beyond-lock f number e h =
    record {
      unlocked = rw h (by-test (crtc_locked f) (λ l. rw l) (λ l. rw l));
      whole = rw e (by-test (crtc_locked f) (λ l. rw l) (λ l. rw l));
    }

-- a record by a road, in a sound file that has both spaces on
pub on-runs : (f : File) (road : Road) (value : ℕ) → T (sound f) → SpacesOn f → Free f road.register → T (leads (selectors_of f) road)
    → T (within (stored_bits f.state.chip road.register) value)
    → RunsInto f (write road value ∷ []) (with_flip (index_flips road.index) (with_register road.register value f))
on-runs f road value s on free l w =
    let stores = road-stores f road value l s (spaces-on f (write road value) on) free w in
    runs-one f (write road value) (with_flip (index_flips road.index) (with_register road.register value f)) stores.done stores.file

-- and in a file that is ready
pub ready-runs : (w : List ℕ) (f : File) (road : Road) (value : ℕ) → Ready w f → T (leads (selectors_of f) road) → T (within (stored_bits f.state.chip road.register) value)
    → RunsInto f (write road value ∷ []) (with_flip (index_flips road.index) (with_register road.register value f))
ready-runs w f road value ready = on-runs f road value ready.is_sound ready.on (unlocked-free f road.register ready.unlocked)

-- another register anew leaves it ready
pub ready_with : (w : List ℕ) (f : File) (number value : ℕ) → Ready w f → T (loose number) → T (within (stored_bits f.state.chip number) value)
    → Ready w (with_register number value f)
unfolding SpacesOn loose is_one_of
ready_with w f number value ready l v =
    record {
      is_sound = with-sound f number value ready.is_sound v;
      on = at_other f number value PCI04 (other PCI04 tt) ∙ ready.on;
      unlocked = at_other f number value CR11 (other CR11 tt) ∙ ready.unlocked;
      misc = at_other f number value MISC (other MISC tt) ∙ ready.misc;
    }
  where
    other : (n : ℕ) → T (is_one_of (PCI04 ∷ CR11 ∷ MISC ∷ []) n) → n ≡ number → ⊥
    other n t e =
        T_not (is_one_of (PCI04 ∷ CR11 ∷ MISC ∷ []) number) l (subst (λ (m : ℕ). T (is_one_of (PCI04 ∷ CR11 ∷ MISC ∷ []) m)) e t)

pub ready-flipped : (w : List ℕ) (f : File) (flip : Bool) → Ready w f → Ready w (with_flip flip f)
unfolding SpacesOn with_flip sound state_sound register
ready-flipped w f flip ready = record { is_sound = ready.is_sound; on = ready.on; unlocked = ready.unlocked; misc = ready.misc }
