-- Demand 3: from every sound start on the wanted file's chip (02, 6/13), each record of the plan is accepted and the run ends in the wanted file, with the
-- start's line (02, 10/13, as settled).
-- Assumes nothing.
use Prim.Native.Nat.{ℕ, ◌*◌, ◌<◌}
use mathlib.Core.Path.{◌≡◌, refl, sym, ap, ap₂, ◌∙◌, subst}
use mathlib.Core.Bool.{Bool, true, false, true≢false, cond, not}
use mathlib.Core.List.{List, ◌∷◌, ◌++◌, map}
use native.Mathlib.Omega.{arith}
use lib.Dec.{T, eqb, leb, T_not, eqb→eq}
use lib.ListN.{get_or, length, drop}
use lib.Seq.{ext_get_or}
use Rattle.bits.proofs.Test.{by-test, passes, is_true, chosen, every_below, below}
use Rattle.file.specs.declared.answer.Answer.{Answer}
use Rattle.file.specs.declared.answer.Answer.TheVariants.{Done, ShortBuffer, NotSound, NotBeforeRed, OtherChip}
use Rattle.file.specs.declared.chip.Chip.{Chip}
use Rattle.file.specs.declared.chip.Chip.TheVariants.{Gd5462, Gd5464}
use Rattle.file.specs.declared.registers.File.{File}
use Rattle.file.specs.File.{register, with_registers, with_pointer, with_toggle, with_palette, with_bank, with_line, Same}
use Rattle.file.specs.Names.{MISC}
use Rattle.file.specs.Registers.{register_count, stored_table, sequencer, crtc, graphics, attribute, pipeline, v_port}
use Rattle.file.specs.Answers.{code_of}
use Rattle.file.specs.Chips.{same_chip}
use Rattle.file.specs.Sound.{all_within, sound}
use Rattle.file.proofs.Soundness.{registers-sound, marks-sound, pointer-sound, sound-count}
use Rattle.places.specs.Lookup.{is_one_of}
use Rattle.access.specs.declared.record.Item.{Item}
use Rattle.access.specs.declared.record.Item.TheVariants.{Whole}
use Rattle.access.specs.declared.record.Record.{Record}
use Rattle.trace.specs.Records.{items}
use Rattle.trace.specs.Run.{file_after, answers}
use Rattle.roads.specs.Roads.{Road, to_arx, each_road, but, register_roads, index_roads, closing_roads}
use Rattle.roads.specs.Plan.{opening, colours, marking, indices, closing, plan_records}
use Rattle.roads.specs.RoadRecords.{along}
use Rattle.roads.specs.Refusals.{plan_answer, restore_answer}
use Rattle.roads.specs.Restores.{all_accepted, RunsInto, Restores, IsFile, Plans, PlanWritten}
use Rattle.roads.specs.RegisterStage.{with_register, Ready, after_selecting, after_roads, brought, moves, ends_wanted, Brings}
use Rattle.roads.specs.ColourStage.{PaletteOpen, with_step}
use Rattle.roads.specs.StageEnds.{opened, coloured, marked, indexed, closed}
use Rattle.roads.proofs.RegisterStageRuns.{ends-wanted, after-length, after-append}
use Rattle.roads.proofs.RunsCompose.{runs_then}
use Rattle.roads.proofs.PlanCount.{plan-room}
use Rattle.roads.proofs.KindsOfRecords.{plan-ordinary, line_stays}
use Rattle.roads.proofs.AcceptedFits.{run_fits, trace-items}
use Rattle.roads.proofs.OpeningRuns.{opening-runs, opened-ready, opened-open}
use Rattle.roads.proofs.LaterStagesRun.{colours-run, marks-run, marked-ready, registers-bring, indices-run, indexed-ready, closing-runs}

-- ---- every register is named

-- the roads of the last two stages
unfoldable pub last_roads : ℕ → List Road
last_roads misc = index_roads misc ++ to_arx ∷ closing_roads

-- the roads after the colours, in the plan's order
unfoldable pub plan_roads : ℕ → List Road
plan_roads misc = register_roads ++ last_roads misc

-- after them every register holds its wanted value, if MISC did before
all-end-wanted : (misc : ℕ) → T (every_below (λ (n : ℕ). ends_wanted (plan_roads misc) n (eqb n MISC)) register_count)
unfolding every_below ends_wanted plan_roads last_roads closing_roads moves register_roads index_roads each_road but is_one_of sequencer crtc graphics attribute pipeline v_port
all-end-wanted misc = tt

-- the registers that the stages after the colours leave are the wanted ones
registers-as-wanted : (w xs : List ℕ) (misc : ℕ) → length xs ≡ length w → length w ≡ register_count → get_or xs MISC 0 ≡ get_or w MISC 0
    → after_roads w (plan_roads misc) xs ≡ w
registers-as-wanted w xs misc many all same =
    ext_get_or 0 (after_roads w (plan_roads misc) xs) w (after-length w (plan_roads misc) xs ∙ many)
    (λ n h.
    let small : n < register_count = omega (arith, after-length w (plan_roads misc) xs) in
    ends-wanted w (plan_roads misc) xs n (eqb n MISC) (omega arith)
    (λ t. subst (λ (m : ℕ). get_or xs m 0 ≡ get_or w m 0) (sym (eqb→eq n MISC t)) same)
    (below (λ (m : ℕ). ends_wanted (plan_roads misc) m (eqb m MISC)) register_count (all-end-wanted misc) n small))

-- ---- demand 3

-- a file with whatever line is the same file
pub same_by : (f g : File) (line : ℕ) → f ≡ with_line line g → Same f g
unfolding Same with_line
same_by f g line e = e ∙ ap (λ (n : ℕ). with_line n g) (ap (λ (h : File). h.state.line) (sym e))

module _ (w f : File) (chips : f.state.chip ≡ w.state.chip) (ws : T (sound w)) (fs : T (sound f)) (wf : IsFile w) (red : w.state.pointer.next ≡ 0)
    (many : length f.palette ≡ 256) (few : length f.bank ≡ 16) where
  within-bits : T (all_within (stored_table f.state.chip) w.registers)
  within-bits = subst (λ (c : Chip). T (all_within (stored_table c) w.registers)) (sym chips) (registers-sound w ws)

  -- the file between the stages
  abbrev after_opening : File
  after_opening = opened w.registers f

  abbrev after_colours : File
  after_colours = coloured w.palette w.bank after_opening

  abbrev after_marks : File
  after_marks = marked w.state.marks after_colours

  abbrev after_registers : File
  after_registers = brought w.registers register_roads after_marks

  abbrev after_indices : File
  after_indices = indexed w.registers w.state.toggle after_registers

  opening-ready : Ready w.registers after_opening
  opening-ready = opened-ready w.registers f within-bits fs

  opening-open : PaletteOpen after_opening false
  opening-open = opened-open w.registers f within-bits fs

  second_runs : RunsInto after_opening (colours w.palette w.bank) after_colours
  unfolding opened with_toggle with_register with_registers
  second_runs =
      colours-run w.registers w.palette w.bank after_opening wf.palette wf.palette_bytes wf.bank wf.bank_bytes
      opening-ready opening-open many few

  third-runs : RunsInto after_colours (marking w.state.marks) after_marks
  unfolding opened with_toggle with_register with_registers
  third-runs =
      marks-run w.registers w.palette w.bank after_opening wf.palette wf.palette_bytes wf.bank wf.bank_bytes
      opening-ready opening-open many few w.state.marks (marks-sound w ws)

  marks-ready : Ready w.registers after_marks
  unfolding opened with_toggle with_register with_registers
  marks-ready =
      marked-ready w.registers w.palette w.bank after_opening wf.palette wf.palette_bytes wf.bank wf.bank_bytes
      opening-ready opening-open many few w.state.marks (marks-sound w ws)

  fourth-brings : Brings w.registers after_marks register_roads
  unfolding marked coloured opened with_toggle with_step with_bank with_palette with_register with_registers
  fourth-brings = registers-bring w.registers after_marks within-bits marks-ready refl

  -- no stage moves the line
  ends-in : closed w.registers w.state.pointer after_indices ≡ with_line f.state.line w
  unfolding with_line closed indexed brought marked coloured opened with_register with_registers with_toggle with_pointer with_step plan_roads last_roads closing_roads index_roads after_roads after_selecting register with_bank with_palette
  ends-in =
      ap₂ ending
      (sym (after-append w.registers register_roads (last_roads (get_or w.registers MISC 0)) after_marks.registers)
      ∙ registers-as-wanted w.registers after_marks.registers (get_or w.registers MISC 0)
      (sound-count after_marks marks-ready.is_sound ∙ sym (sound-count w ws)) (sound-count w ws) marks-ready.misc)
      chips
    where
      -- the wanted file with these registers, on this chip, at the start's line
      ending : List ℕ → Chip → File
      ending registers chip =
          record {
            registers = registers;
            palette = w.palette;
            bank = w.bank;
            state = record { pointer = w.state.pointer; marks = w.state.marks; toggle = w.state.toggle; chip = chip; line = f.state.line };
          }

  plan-runs : RunsInto f (plan_records w) (with_line f.state.line w)
  unfolding plan_records brought with_registers marked coloured opened indexed with_toggle with_step with_bank with_palette with_register
  plan-runs =
      subst (λ (g : File). RunsInto f (plan_records w) g) ends-in
      (runs_then (opening w.registers ++ colours w.palette w.bank ++ marking w.state.marks ++ along w.registers register_roads ++ indices w.registers w.state.toggle)
      (closing w.registers w.state.pointer) f after_indices (closed w.registers w.state.pointer after_indices)
      (runs_then (opening w.registers ++ colours w.palette w.bank ++ marking w.state.marks ++ along w.registers register_roads) (indices w.registers w.state.toggle)
      f after_registers after_indices
      (runs_then (opening w.registers ++ colours w.palette w.bank ++ marking w.state.marks) (along w.registers register_roads) f after_marks after_registers
      (runs_then (opening w.registers ++ colours w.palette w.bank) (marking w.state.marks) f after_colours after_marks
      (runs_then (opening w.registers) (colours w.palette w.bank) f after_opening after_colours (opening-runs w.registers f within-bits fs)
      second_runs)
      third-runs)
      fourth-brings.runs)
      (indices-run w.registers w.state.toggle after_registers within-bits fourth-brings.ready refl))
      (closing-runs w.registers w.state.pointer after_indices within-bits (pointer-sound w ws) red wf.address
      (indexed-ready w.registers w.state.toggle after_registers within-bits fourth-brings.ready refl)))

  pub plan-restores : Restores f (plan_records w) w
  plan-restores = record { all_done = plan-runs.all_done; ends = same_by _ w f.state.line plan-runs.ends }

-- demand 3, as a plan's definition says it
pub plan-serves : (w : File) → IsFile w → T (sound w) → w.state.pointer.next ≡ 0 → Plans w (plan_records w)
plan-serves w wf ws red =
    record {
      room = plan-room w wf;
      whole = run_fits (plan_records w) w (plan-restores w w refl ws ws wf red wf.palette wf.bank).all_done;
      ordinary = plan-ordinary w;
      restores = λ f ff fs chips. plan-restores w f chips ws fs wf red ff.palette ff.bank;
    }

-- a buffer that holds a plan is read as its records
pub written-items : (w : File) (before after : List ℕ) (count : ℕ) (p : PlanWritten w before after count) → items count after ≡ map Whole p.records
written-items w before after count p =
    ap₂ items p.counted p.filled ∙ trace-items p.records (drop (8 * count) before)

-- run over: every record is accepted, and the run ends in the wanted file
pub planned-runs : (w : File) (before after : List ℕ) (count : ℕ) → PlanWritten w before after count → (f : File) → IsFile f → T (sound f) → f.state.chip ≡ w.state.chip
    → T (all_accepted (answers f (items count after))) × Same (file_after f (items count after)) w
planned-runs w before after count p f ff fs chips =
    let runs = p.plans.restores f ff fs chips in
    let same = written-items w before after count p in
    (subst (λ (is : List Item). T (all_accepted (answers f is))) (sym same) runs.all_done, subst (λ (is : List Item). Same (file_after f is) w) (sym same) runs.ends)

-- at the line that it began with
pub planned-line : (w : File) (before after : List ℕ) (count : ℕ) → PlanWritten w before after count → (f : File) → (file_after f (items count after)).state.line ≡ f.state.line
planned-line w before after count p f =
    ap (λ (is : List Item). (file_after f is).state.line) (written-items w before after count p) ∙ line_stays p.records f p.plans.ordinary

-- ---- code 15

-- the test of two chips says that they are one
pub same-chip : (a b : Chip) → same_chip a b ≡ true → a ≡ b
unfolding same_chip
same-chip Gd5462 Gd5462 e = refl
same-chip Gd5462 Gd5464 e = absurd (true≢false (sym e))
same-chip Gd5464 Gd5462 e = absurd (true≢false (sym e))
same-chip Gd5464 Gd5464 e = refl

-- two sound files on different chips
pub record Between (f w : File) : Type 0 where
  pub current : sound f ≡ true
  pub wanted : sound w ≡ true
  pub chips : same_chip f.state.chip w.state.chip ≡ false

-- 02, 6/13: between them 15 is answered
pub fifteen-between : (f w : File) (room : ℕ) → sound f ≡ true → sound w ≡ true → same_chip f.state.chip w.state.chip ≡ false
    → code_of (restore_answer f w room) ≡ 15
unfolding restore_answer code_of
fifteen-between f w room s t c = rw (s, t, c)

plan-not-fifteen : (w : File) (room : ℕ) → T (not (eqb (code_of (plan_answer w room)) 15))
unfolding plan_answer code_of
plan-not-fifteen w room =
    chosen other (sound w) _ NotSound
    (chosen other (eqb w.state.pointer.next 0) _ NotBeforeRed (chosen other (leb 8192 room) (Done 0) ShortBuffer tt tt) tt) tt
  where
    other : Answer → Bool
    other a = not (eqb (code_of a) 15)

-- and nowhere else
pub fifteen-only-between : (f w : File) (room : ℕ) → code_of (restore_answer f w room) ≡ 15 → Between f w
unfolding restore_answer code_of
fifteen-only-between f w room e =
    by-test (sound f)
    (λ s. by-test (sound w)
    (λ t. by-test (same_chip f.state.chip w.state.chip)
    (λ c.
    let planned : code_of (plan_answer w room) ≡ 15 = rw (s, t, c) at e in
    absurd (T_not (eqb (code_of (plan_answer w room)) 15) (plan-not-fifteen w room) (rw planned tt)))
    (λ c. record { current = s; wanted = t; chips = c }))
    (λ t. absurd (omega (arith, rw (s, t) at e))))
    (λ s. absurd (omega (arith, rw s at e)))
