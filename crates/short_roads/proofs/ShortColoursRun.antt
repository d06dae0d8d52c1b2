-- The stage of colours over the entries that a set names: from a file that holds the others as wanted, it leaves what the full plan's stage does.
-- Assumes nothing.
use Prim.Native.Nat.{ℕ, ◌<◌}
use mathlib.Core.Path.{◌≡◌, refl, sym, ap, ap₂, ◌∙◌, subst}
use mathlib.Core.Bool.{Bool, true, false, true≢false}
use mathlib.Core.List.{List, [], ◌∷◌}
use native.Mathlib.Omega.{arith}
use borrow.Author.Tests.{eqb-true, eqb-false}
use lib.Dec.{T, eqb}
use lib.ListN.{get_or, length, length-set}
use lib.Seq.{get_or-set_same, get_or-set_other}
use Rattle.bits.proofs.Test.{by-test}
use Rattle.file.specs.declared.palette.Colour.{Colour}
use Rattle.file.specs.declared.palette.Pointer.{Pointer}
use Rattle.file.specs.declared.registers.File.{File}
use Rattle.file.specs.File.{register, with_registers, with_palette, with_bank, black}
use Rattle.file.specs.Names.{B0}
use Rattle.file.specs.Sound.{sound}
use Rattle.file.proofs.Soundness.{state-sound}
use Rattle.places.specs.Lookup.{is_one_of}
use Rattle.roads.specs.Roads.{to_b0}
use Rattle.roads.specs.RoadRecords.{write}
use Rattle.roads.specs.Plan.{open_bank}
use Rattle.roads.specs.Restores.{RunsInto, bytes}
use Rattle.roads.specs.RegisterStage.{with_register, with_flip, index_flips, Ready, loose}
use Rattle.roads.specs.ColourStage.{PaletteOpen, Stretch, with_step, after_stretch, after_stretches, stretch_records}
use Rattle.roads.specs.StageEnds.{coloured}
use Rattle.roads.proofs.RunsCompose.{runs_then}
use Rattle.roads.proofs.LookupBySelectors.{selectors_of}
use Rattle.roads.proofs.RoadsLead.{single-roads-lead}
use Rattle.roads.proofs.ReadyRuns.{ready-runs, ready_with}
use Rattle.roads.proofs.ColourStageRuns.{after-sound, stretches-run, stretches-leave}
use Rattle.roads.proofs.OpeningRuns.{open-fits}
use Rattle.roads.proofs.LaterStagesRun.{ready-as, chosen-up, bank-open}
use Rattle.touched.specs.declared.set.Touched.{Touched}
use Rattle.touched.specs.Things.{IsSet}
use Rattle.short_roads.specs.ShortPlan.{stretches_from, last_entry, bank_named, short_colours}
use Rattle.short_roads.proofs.StretchesNamed.{stretches-in-range, ends-behind, patched-all}

all_sound : (bank : Bool) (stretches : List Stretch) (f : File) → T (sound f) → T (sound (after_stretches bank stretches f))
unfolding after_stretches
all_sound bank [] f t = t
all_sound bank (stretch ∷ stretches) f t = all_sound bank stretches (after_stretch bank stretch f) (after-sound bank stretch f t)

-- the bank's entries that are written: those that the set names, and the last
bank-count : (s : Touched) → IsSet s → length (bank_named s) ≡ 16
unfolding bank_named
bank-count s is = length-set s.bank last_entry true ∙ is.bank

last-named : (s : Touched) → IsSet s → get_or (bank_named s) 15 false ≡ true
unfolding bank_named last_entry
last-named s is = get_or-set_same s.bank 15 true false (omega (arith, is.bank))

unnamed-bank : (s : Touched) → IsSet s → (i : ℕ) → get_or (bank_named s) i false ≡ false → get_or s.bank i false ≡ false
unfolding bank_named last_entry
unnamed-bank s is i e =
    by-test (eqb i 15)
    (λ q. absurd (true≢false (sym (last-named s is) ∙ subst (λ (m : ℕ). get_or (bank_named s) m false ≡ false) (eqb-true i 15 q) e)))
    (λ q. sym (get_or-set_other s.bank 15 i true false (eqb-false i 15 q)) ∙ e)

module _ (w : List ℕ) (s : Touched) (is : IsSet s) (palette bank : List Colour) (f : File) (all : length palette ≡ 256) (all_bytes : T (bytes palette))
    (sixteen : length bank ≡ 16) (bank_bytes : T (bytes bank)) (ready : Ready w f) (opens : PaletteOpen f false)
    (full : length f.palette ≡ 256) (few : length f.bank ≡ 16)
    (heldPalette : (i : ℕ) → i < 256 → get_or s.palette i false ≡ false → get_or f.palette i black ≡ get_or palette i black)
    (heldBank : (i : ℕ) → i < 16 → get_or s.bank i false ≡ false → get_or f.bank i black ≡ get_or bank i black) where
  abbrev in_palette : List Stretch
  in_palette = stretches_from 0 s.palette palette

  abbrev in_bank : List Stretch
  in_bank = stretches_from 0 (bank_named s) bank

  -- between the two: the palette is as wanted, wherever the pointer and the marks are
  abbrev half : File
  half = with_step (after_stretches false in_palette f).state.pointer (after_stretches false in_palette f).state.marks (with_palette palette f)

  half_is : after_stretches false in_palette f ≡ half
  half_is =
      stretches-leave false in_palette f
      ∙ ap (λ (l : List Colour). with_step (after_stretches false in_palette f).state.pointer (after_stretches false in_palette f).state.marks (with_palette l f))
      (patched-all s.palette palette f.palette (is.palette ∙ sym all) (full ∙ sym all) (λ i h e. heldPalette i (omega arith) e))

  half_runs : RunsInto f (stretch_records in_palette) half
  half_runs =
      subst (λ (g : File). RunsInto f (stretch_records in_palette) g) half_is
      (stretches-run in_palette f false ready.is_sound (chosen-up w f false ready opens) (stretches-in-range false s.palette 0 palette (omega arith) all_bytes))

  half-ready : Ready w half
  unfolding with_step with_palette
  half-ready =
      ready-as w f half refl refl (state-sound half (subst (λ (g : File). T (sound g)) half_is (all_sound false in_palette f ready.is_sound))) ready

  abbrev switched : File
  switched = with_register B0 open_bank half

  switched-ready : Ready w switched
  unfolding loose is_one_of with_step with_palette
  switched-ready = ready_with w half B0 open_bank half-ready tt (open-fits f.state.chip).bank

  switched-open : PaletteOpen switched true
  unfolding with_step with_palette register
  switched-open = bank-open half half-ready.is_sound opens.sync

  ends : after_stretches true in_bank switched ≡ coloured palette bank f
  unfolding coloured with_register with_registers with_step with_palette with_bank
  ends =
      let behind = ends-behind true (bank_named s) 0 bank 15 switched (bank-count s is ∙ sym sixteen) (omega (arith, bank-count s is)) (last-named s is) in
      stretches-leave true in_bank switched
      ∙ ap (λ (l : List Colour). with_step (after_stretches true in_bank switched).state.pointer (after_stretches true in_bank switched).state.marks (with_bank l switched))
      (patched-all (bank_named s) bank f.bank (bank-count s is ∙ sym sixteen) (few ∙ sym sixteen)
      (λ i h e. heldBank i (omega arith) (unnamed-bank s is i e)))
      ∙ ap₂ (λ (p : Pointer) (m : ℕ). with_step p m (with_bank bank switched)) (behind.0 ∙ rw (bank-count s is)) behind.1

  -- the stage
  pub short-colours-run : RunsInto f (short_colours s palette bank) (coloured palette bank f)
  unfolding short_colours index_flips with_flip with_register with_registers with_step with_palette with_bank
  short-colours-run =
      runs_then (stretch_records in_palette) (write to_b0 open_bank ∷ stretch_records in_bank) f half (coloured palette bank f)
      half_runs
      (runs_then (write to_b0 open_bank ∷ []) (stretch_records in_bank) half switched (coloured palette bank f)
      (ready-runs w half to_b0 open_bank half-ready (single-roads-lead (selectors_of half)).b0 (open-fits f.state.chip).bank)
      (subst (λ (g : File). RunsInto switched (stretch_records in_bank) g) ends
      (stretches-run in_bank switched true switched-ready.is_sound (chosen-up w switched true switched-ready switched-open)
      (stretches-in-range true (bank_named s) 0 bank (omega arith) bank_bytes))))
