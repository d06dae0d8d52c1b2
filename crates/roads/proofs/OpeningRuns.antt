-- The plan's opening, from any sound file.
-- Assumes nothing.
use Prim.Native.Nat.{ℕ}
use mathlib.Core.Bool.{false}
use mathlib.Core.Path.{◌≡◌, refl, ◌∙◌}
use mathlib.Core.List.{List, [], ◌∷◌}
use lib.Dec.{T, lit<}
use lib.ListN.{get_or}
use Rattle.bits.specs.Store.{store, within}
use Rattle.file.specs.declared.chip.Chip.{Chip}
use Rattle.file.specs.declared.registers.File.{File}
use Rattle.file.specs.File.{register, with_registers, with_toggle}
use Rattle.file.specs.Names.{MISC, PCI04, CR11, CR1A, B0}
use Rattle.file.specs.Registers.{stored_bits, stored_table}
use Rattle.file.proofs.Soundness.{sound-by, registers-sound, state-sound, toggling-sound}
use Rattle.file.specs.Sound.{all_within, sound}
use Rattle.places.specs.Lookup.{is_one_of}
use Rattle.access.specs.Checks.{is_port, is_mmio, space_off}
use Rattle.roads.specs.Roads.{to_pci04, to_cr11, to_b0, to_cr1_a, to_misc}
use Rattle.roads.specs.Plan.{to_index, open_spaces, open_lock, open_palette, open_bank, open_sync, opening}
use Rattle.roads.specs.RoadRecords.{write}
use Rattle.roads.specs.Restores.{RunsInto}
use Rattle.roads.specs.RegisterStage.{with_register, with_flip, index_flips, SpacesOn, Ready, loose}
use Rattle.roads.specs.ColourStage.{PaletteOpen}
use Rattle.roads.specs.StageEnds.{with_spaces_on, with_lock_off, with_misc, with_palette_chosen, with_palette_up, opened}
use Rattle.roads.proofs.LookupBySelectors.{selectors_of}
use Rattle.roads.proofs.RunsCompose.{runs-one, runs_then}
use Rattle.roads.proofs.RoadsLead.{single-roads-lead}
use Rattle.roads.proofs.ReadyRuns.{at-any, with-sound, wanted-within, beyond-lock, unlocked-free, on-runs, ready-runs, ready_with}
use Rattle.roads.proofs.RoadStores.{road-stores}
use Rattle.roads.proofs.ToggleReads.{reset_runs}

-- PCI04 by config, which is open in every file
pub config-runs : (f : File) (value : ℕ) → T (sound f) → T (within (stored_bits f.state.chip PCI04) value)
    → RunsInto f (write to_pci04 value ∷ []) (with_register PCI04 value f)
unfolding space_off is_port is_mmio index_flips with_flip
config-runs f value s w =
    let stores = road-stores f to_pci04 value (single-roads-lead (selectors_of f)).pci04 s refl (beyond-lock f PCI04 refl refl) w in
    runs-one f (write to_pci04 value) (with_register PCI04 value f) stores.done stores.file

-- what is opened fits its registers on a chip
pub record OpenFits (chip : Chip) : Type 0 where
  pub spaces : T (within (stored_bits chip PCI04) open_spaces)
  pub lock : T (within (stored_bits chip CR11) open_lock)
  pub palette : T (within (stored_bits chip B0) open_palette)
  pub bank : T (within (stored_bits chip B0) open_bank)
  pub sync : T (within (stored_bits chip CR1A) open_sync)

pub open-fits : (chip : Chip) → OpenFits chip
unfolding open_spaces open_lock open_palette open_bank open_sync stored_bits stored_table within store
open-fits chip = record { spaces = tt; lock = tt; palette = tt; bank = tt; sync = tt }

module _ (w : List ℕ) (f : File) (ws : T (all_within (stored_table f.state.chip) w)) (fs : T (sound f)) where
  -- sound after the first, second and third record
  s1 : T (sound (with_spaces_on f))
  s1 = with-sound f PCI04 open_spaces fs (open-fits f.state.chip).spaces

  s2 : T (sound (with_lock_off f))
  unfolding with_register with_registers
  s2 = with-sound (with_spaces_on f) CR11 open_lock s1 (open-fits f.state.chip).lock

  s3 : T (sound (with_misc w f))
  unfolding with_register with_registers
  s3 = with-sound (with_lock_off f) MISC (get_or w MISC 0) s2 (wanted-within f.state.chip w MISC ws)

  -- both spaces on after the first two, unlocked after the second
  on1 : SpacesOn (with_spaces_on f)
  unfolding SpacesOn
  on1 = at-any f PCI04 open_spaces PCI04 fs (lit< tt)

  on2 : SpacesOn (with_lock_off f)
  unfolding SpacesOn
  on2 = at-any (with_spaces_on f) CR11 open_lock PCI04 s1 (lit< tt) ∙ on1

  free2 : register (with_lock_off f) CR11 ≡ open_lock
  free2 = at-any (with_spaces_on f) CR11 open_lock CR11 s1 (lit< tt)

  -- ready after the third, and from there on
  misc-ready : Ready w (with_misc w f)
  unfolding SpacesOn
  misc-ready =
      record {
        is_sound = s3;
        on = at-any (with_lock_off f) MISC (get_or w MISC 0) PCI04 s2 (lit< tt) ∙ on2;
        unlocked = at-any (with_lock_off f) MISC (get_or w MISC 0) CR11 s2 (lit< tt) ∙ free2;
        misc = at-any (with_lock_off f) MISC (get_or w MISC 0) MISC s2 (lit< tt);
      }

  chosen-ready : Ready w (with_palette_chosen w f)
  unfolding loose is_one_of with_register with_registers
  chosen-ready = ready_with w (with_misc w f) B0 open_palette misc-ready tt (open-fits f.state.chip).palette

  up-ready : Ready w (with_palette_up w f)
  unfolding loose is_one_of with_register with_registers
  up-ready = ready_with w (with_palette_chosen w f) CR1A open_sync chosen-ready tt (open-fits f.state.chip).sync

  -- the stage
  pub opening-runs : RunsInto f (opening w) (opened w f)
  unfolding opening opened index_flips with_flip with_register with_registers
  opening-runs =
      runs_then (write to_pci04 open_spaces ∷ []) (write to_cr11 open_lock ∷ write to_misc (get_or w MISC 0) ∷ write to_b0 open_palette ∷ write to_cr1_a open_sync ∷ to_index (get_or w MISC 0) ∷ [])
      f (with_spaces_on f) (opened w f) (config-runs f open_spaces fs (open-fits f.state.chip).spaces)
      (runs_then (write to_cr11 open_lock ∷ []) (write to_misc (get_or w MISC 0) ∷ write to_b0 open_palette ∷ write to_cr1_a open_sync ∷ to_index (get_or w MISC 0) ∷ [])
      (with_spaces_on f) (with_lock_off f) (opened w f)
      (on-runs (with_spaces_on f) to_cr11 open_lock s1 on1 (beyond-lock (with_spaces_on f) CR11 refl refl) (single-roads-lead (selectors_of (with_spaces_on f))).cr11 (open-fits f.state.chip).lock)
      (runs_then (write to_misc (get_or w MISC 0) ∷ []) (write to_b0 open_palette ∷ write to_cr1_a open_sync ∷ to_index (get_or w MISC 0) ∷ [])
      (with_lock_off f) (with_misc w f) (opened w f)
      (on-runs (with_lock_off f) to_misc (get_or w MISC 0) s2 on2 (unlocked-free (with_lock_off f) MISC free2) (single-roads-lead (selectors_of (with_lock_off f))).misc
      (wanted-within f.state.chip w MISC ws))
      (runs_then (write to_b0 open_palette ∷ []) (write to_cr1_a open_sync ∷ to_index (get_or w MISC 0) ∷ [])
      (with_misc w f) (with_palette_chosen w f) (opened w f)
      (ready-runs w (with_misc w f) to_b0 open_palette misc-ready (single-roads-lead (selectors_of (with_misc w f))).b0 (open-fits f.state.chip).palette)
      (runs_then (write to_cr1_a open_sync ∷ []) (to_index (get_or w MISC 0) ∷ [])
      (with_palette_chosen w f) (with_palette_up w f) (opened w f)
      (ready-runs w (with_palette_chosen w f) to_cr1_a open_sync chosen-ready (single-roads-lead (selectors_of (with_palette_chosen w f))).cr1a (open-fits f.state.chip).sync)
      (reset_runs w (with_palette_up w f) up-ready)))))

  pub opened-ready : Ready w (opened w f)
  unfolding opened with_toggle SpacesOn register
  opened-ready = record { is_sound = sound-by (opened w f) (registers-sound (with_palette_up w f) up-ready.is_sound) (toggling-sound false (with_palette_up w f).state (state-sound (with_palette_up w f) up-ready.is_sound)); on = up-ready.on; unlocked = up-ready.unlocked; misc = up-ready.misc }

  -- 02, 7/13: the palette is open, whatever the start held
  pub opened-open : PaletteOpen (opened w f) false
  unfolding opened with_toggle register
  opened-open =
      record {
        b0 =
            at-any (with_palette_chosen w f) CR1A open_sync B0 chosen-ready.is_sound (lit< tt)
            ∙ at-any (with_misc w f) B0 open_palette B0 s3 (lit< tt);
        sync = at-any (with_palette_chosen w f) CR1A open_sync CR1A chosen-ready.is_sound (lit< tt);
      }
