-- 02, 11/13: from every sound file on the saved file's chip that differs from it inside the set only, each record of the short plan is accepted and the run ends in
-- the saved file, with the start's line (02, 10/13, as settled). Assumes nothing.
use Prim.Native.Nat.{ℕ, ◌<◌}
use mathlib.Core.Path.{◌≡◌, refl, sym, ap₂, ◌∙◌, subst}
use mathlib.Core.Bool.{true, false, true≢false}
use mathlib.Core.List.{List, [], ◌++◌}
use native.Mathlib.Omega.{arith}
use lib.Dec.{T}
use lib.ListN.{get_or}
use lib.Seq.{ext_get_or}
use Rattle.bits.proofs.Test.{by-test, is_true}
use Rattle.file.specs.declared.chip.Chip.{Chip}
use Rattle.file.specs.declared.registers.File.{File}
use Rattle.file.specs.File.{register, with_registers, with_pointer, with_toggle, with_palette, with_bank, with_line, black}
use Rattle.file.specs.Names.{MISC, PCI04, CR11, CR1A, B0}
use Rattle.file.specs.Registers.{register_count, stored_table}
use Rattle.file.specs.Sound.{all_within, sound}
use Rattle.file.proofs.Soundness.{registers-sound, marks-sound, pointer-sound, sound-count}
use Rattle.roads.specs.Roads.{Road, index_roads, closing_roads, register_roads}
use Rattle.roads.specs.RoadRecords.{along}
use Rattle.roads.specs.Plan.{open_spaces, open_lock, open_palette, open_bank, open_sync, opening, marking, indices, closing}
use Rattle.roads.specs.Restores.{RunsInto, Restores, IsFile}
use Rattle.roads.specs.RegisterStage.{with_register, Ready, passable, after_selecting, after_roads, brought, Brings}
use Rattle.roads.specs.ColourStage.{PaletteOpen, with_step}
use Rattle.roads.specs.StageEnds.{with_spaces_on, with_lock_off, with_misc, with_palette_chosen, opened, coloured, marked, indexed, closed}
use Rattle.roads.proofs.RunsCompose.{runs_none, runs_then}
use Rattle.roads.proofs.RoadsLead.{leading, leads, with_index, registers-lead}
use Rattle.roads.proofs.ReadyRuns.{at_other}
use Rattle.roads.proofs.RegisterStageRuns.{roads-bring, after-append}
use Rattle.roads.proofs.OpeningRuns.{opening-runs, opened-ready, opened-open}
use Rattle.roads.proofs.LaterStagesRun.{marks-run, marked-ready, registers-open, indices-run, indexed-ready, closing-runs}
use Rattle.roads.proofs.PlanServes.{last_roads, same_by}
use Rattle.roads.proofs.AcceptedFits.{run_fits}
use Rattle.touched.specs.declared.set.Touched.{Touched}
use Rattle.touched.specs.Things.{IsSet, is_empty, a_register, in_palette, in_bank, the_pointer, the_marks, the_toggle, names}
use Rattle.touched.specs.Outside.{SameElsewhere}
use Rattle.touched.proofs.Elsewhere.{agrees-elsewhere, itself-agrees}
use Rattle.touched.proofs.Empty.{empty-names}
use Rattle.short_roads.specs.ShortPlan.{short_colours, named_roads, stage_records, short_records}
use Rattle.short_roads.specs.Serves.{ShortPlans}
use Rattle.short_roads.proofs.NamedRoads.{named-every, at_last, OpenedLast, opened-last, named-as-wanted}
use Rattle.short_roads.proofs.ShortColoursRun.{short-colours-run}
use Rattle.short_roads.proofs.ShortCount.{short-of-empty, short-of-other, short-no-longer}
use Rattle.short_roads.proofs.ShortKinds.{short-ordinary}

module _ (w f : File) (s : Touched) (is : IsSet s) (chips : f.state.chip ≡ w.state.chip) (ws : T (sound w)) (fs : T (sound f)) (wf : IsFile w) (ff : IsFile f)
    (red : w.state.pointer.next ≡ 0) (same : SameElsewhere s f w) where
  -- ---- nothing named: the two are one file, the line apart

  nothing-named : is_empty s ≡ true → f ≡ with_line f.state.line w
  unfolding names register with_line
  nothing-named e =
      let none = empty-names s e in
      let registers = ext_get_or 0 f.registers w.registers (sound-count f fs ∙ sym (sound-count w ws)) (λ n h. same.registers n (omega (arith, sound-count f fs)) (none (a_register n))) in
      let palette = ext_get_or black f.palette w.palette (ff.palette ∙ sym wf.palette) (λ n h. same.palette n (omega (arith, ff.palette)) (none (in_palette n))) in
      let bank = ext_get_or black f.bank w.bank (ff.bank ∙ sym wf.bank) (λ n h. same.bank n (omega (arith, ff.bank)) (none (in_bank n))) in
      let pointer = same.pointer (none the_pointer) in
      let marks = same.marks (none the_marks) in
      let toggle = same.toggle (none the_toggle) in
      λ i. record {
        registers = registers i;
        palette = palette i;
        bank = bank i;
        state = record { pointer = pointer i; marks = marks i; toggle = toggle i; chip = chips i; line = f.state.line };
      }

  -- ---- else the full plan's stages

  abbrev wanted : List ℕ
  wanted = w.registers

  abbrev roads : List Road
  roads = named_roads s.registers register_roads

  within-bits : T (all_within (stored_table f.state.chip) wanted)
  within-bits = subst (λ (c : Chip). T (all_within (stored_table c) wanted)) (sym chips) (registers-sound w ws)

  -- the file between the stages
  abbrev after_opening : File
  after_opening = opened wanted f

  abbrev after_colours : File
  after_colours = coloured w.palette w.bank after_opening

  abbrev after_marks : File
  after_marks = marked w.state.marks after_colours

  abbrev after_registers : File
  after_registers = brought wanted roads after_marks

  abbrev after_indices : File
  after_indices = indexed wanted w.state.toggle after_registers

  opening-ready : Ready wanted after_opening
  opening-ready = opened-ready wanted f within-bits fs

  opening-open : PaletteOpen after_opening false
  opening-open = opened-open wanted f within-bits fs

  second_runs : RunsInto after_opening (short_colours s w.palette w.bank) after_colours
  unfolding opened with_toggle with_register with_registers
  second_runs =
      short-colours-run wanted s is w.palette w.bank after_opening wf.palette wf.palette_bytes wf.bank wf.bank_bytes
      opening-ready opening-open ff.palette ff.bank same.palette same.bank

  third-runs : RunsInto after_colours (marking w.state.marks) after_marks
  unfolding opened with_toggle with_register with_registers
  third-runs =
      marks-run wanted w.palette w.bank after_opening wf.palette wf.palette_bytes wf.bank wf.bank_bytes
      opening-ready opening-open ff.palette ff.bank w.state.marks (marks-sound w ws)

  marks-ready : Ready wanted after_marks
  unfolding opened with_toggle with_register with_registers
  marks-ready =
      marked-ready wanted w.palette w.bank after_opening wf.palette wf.palette_bytes wf.bank wf.bank_bytes
      opening-ready opening-open ff.palette ff.bank w.state.marks (marks-sound w ws)

  fourth-brings : Brings wanted after_marks roads
  unfolding marked coloured opened with_toggle with_step with_bank with_palette with_register with_registers leading
  fourth-brings =
      roads-bring wanted roads after_marks within-bits marks-ready refl (named-every passable s.registers register_roads registers-open)
      (λ v e. named-every (λ (road : Road). leads (with_index road.index v) road) s.registers register_roads (registers-lead v))

  -- a register that is neither named nor opened is as wanted all the time
  held : (n : ℕ) → n < register_count → at_last (get_or wanted MISC 0) n ≡ false → (n ≡ MISC → ⊥) → get_or s.registers n false ≡ false
      → get_or after_marks.registers n 0 ≡ get_or wanted n 0
  unfolding marked coloured opened with_toggle with_step with_bank with_palette with_register with_registers register
  held n h early other e =
      at_other after_opening B0 open_bank n (opens B0 last.b0)
      ∙ at_other (with_palette_chosen wanted f) CR1A open_sync n (opens CR1A last.cr1a)
      ∙ at_other (with_misc wanted f) B0 open_palette n (opens B0 last.b0)
      ∙ at_other (with_lock_off f) MISC (get_or wanted MISC 0) n other
      ∙ at_other (with_spaces_on f) CR11 open_lock n (opens CR11 last.cr11)
      ∙ at_other f PCI04 open_spaces n (opens PCI04 last.pci04)
      ∙ same.registers n h e
    where
      last : OpenedLast (get_or wanted MISC 0)
      last = opened-last (get_or wanted MISC 0)

      opens : (m : ℕ) → T (at_last (get_or wanted MISC 0) m) → n ≡ m → ⊥
      opens m t q = true≢false (sym (is_true (at_last (get_or wanted MISC 0) m) t) ∙ subst (λ (k : ℕ). at_last (get_or wanted MISC 0) k ≡ false) q early)

  -- no stage moves the line
  ends-in : closed wanted w.state.pointer after_indices ≡ with_line f.state.line w
  unfolding with_line closed indexed brought marked coloured opened with_register with_registers with_toggle with_pointer with_step last_roads closing_roads index_roads after_roads after_selecting register with_bank with_palette
  ends-in =
      ap₂ ending
      (sym (after-append wanted roads (last_roads (get_or wanted MISC 0)) after_marks.registers)
      ∙ named-as-wanted wanted after_marks.registers s.registers (get_or wanted MISC 0)
      (sound-count after_marks marks-ready.is_sound ∙ sym (sound-count w ws)) (sound-count w ws) marks-ready.misc held)
      chips
    where
      -- the saved file with these registers, on this chip, at the start's line
      ending : List ℕ → Chip → File
      ending registers chip =
          record {
            registers = registers;
            palette = w.palette;
            bank = w.bank;
            state = record { pointer = w.state.pointer; marks = w.state.marks; toggle = w.state.toggle; chip = chip; line = f.state.line };
          }

  stages-run : is_empty s ≡ false → RunsInto f (short_records w s) (with_line f.state.line w)
  unfolding short_records stage_records brought with_registers marked coloured opened indexed with_toggle with_step with_bank with_palette with_register
  stages-run e =
      rw e
      (subst (λ (g : File). RunsInto f (opening wanted ++ short_colours s w.palette w.bank ++ marking w.state.marks ++ along wanted roads ++ indices wanted w.state.toggle ++ closing wanted w.state.pointer) g) ends-in
      (runs_then (opening wanted ++ short_colours s w.palette w.bank ++ marking w.state.marks ++ along wanted roads ++ indices wanted w.state.toggle)
      (closing wanted w.state.pointer) f after_indices (closed wanted w.state.pointer after_indices)
      (runs_then (opening wanted ++ short_colours s w.palette w.bank ++ marking w.state.marks ++ along wanted roads) (indices wanted w.state.toggle) f after_registers after_indices
      (runs_then (opening wanted ++ short_colours s w.palette w.bank ++ marking w.state.marks) (along wanted roads) f after_marks after_registers
      (runs_then (opening wanted ++ short_colours s w.palette w.bank) (marking w.state.marks) f after_colours after_marks
      (runs_then (opening wanted) (short_colours s w.palette w.bank) f after_opening after_colours (opening-runs wanted f within-bits fs)
      second_runs)
      third-runs)
      fourth-brings.runs)
      (indices-run wanted w.state.toggle after_registers within-bits fourth-brings.ready refl))
      (closing-runs wanted w.state.pointer after_indices within-bits (pointer-sound w ws) red wf.address
      (indexed-ready wanted w.state.toggle after_registers within-bits fourth-brings.ready refl))))

  short-runs : RunsInto f (short_records w s) (with_line f.state.line w)
  unfolding short_records
  short-runs =
      by-test (is_empty s) (λ e. rw e (subst (λ (g : File). RunsInto f [] g) (nothing-named e) (runs_none f))) stages-run

  pub short-restores : Restores f (short_records w s) w
  short-restores = record { all_done = short-runs.all_done; ends = same_by _ w f.state.line short-runs.ends }

-- 02, 11/13: what a short plan is
pub short-plan-serves : (w : File) (s : Touched) → IsFile w → IsSet s → T (sound w) → w.state.pointer.next ≡ 0 → ShortPlans w s (short_records w s)
short-plan-serves w s wf is ws red =
    record {
      no_longer = short-no-longer w s;
      of_empty = short-of-empty w s;
      of_other = short-of-other w s;
      whole = run_fits (short_records w s) w (short-restores w w s is refl ws ws wf wf red (agrees-elsewhere s w w (itself-agrees s w))).all_done;
      ordinary = short-ordinary w s;
      restores = λ f ff fs chips t. short-restores w f s is chips ws fs wf ff red (agrees-elsewhere s f w t);
    }
