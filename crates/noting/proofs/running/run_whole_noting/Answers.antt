use Prim.Native.Nat.{ℕ, ◌*◌, ◌%◌}
use mathlib.Core.Path.{◌≡◌, refl, sym, ap, ◌∙◌, subst}
use mathlib.Core.Bool.{cond, ◌&&◌, not}
use mathlib.Core.List.{◌++◌}
use native.Mathlib.Omega.{arith}
use lib.Dec.{T}
use lib.ListN.{drop, set}
use Rattle.file.specs.declared.registers.File.{File}
use Rattle.file.specs.File.{register, seen, black, bank_count}
use Rattle.file.specs.Registers.{stored_table}
use Rattle.file.specs.Sound.{sound}
use Rattle.places.specs.EngineCells.{cell_table}
use Rattle.access.specs.Access.{in_bank, shown_in}
use Rattle.trace.specs.Records.{items}
use Rattle.trace.specs.Run.{file_after, replies}
use Rattle.trace.proofs.RunLoop.{together, buffer-long, component-served, held-step}
use Rattle.trace.proofs.RunMore.{run_sound, run-chip}
use Rattle.touched.specs.Noted.{noted_all}
use Rattle.noting.specs.Noting.{run_reaches}
use Rattle.noting.proofs.RunReaches.{noted_step}
use Rattle.noting.proofs.running.run_whole_noting.Goals as goal
use Rattle.noting.proofs.running.run_whole_noting.Goals.{then-served, else-served, then-served-2+then-served-3, then-served-2+else-served-3, else-served-2}

pub loop-n-init : goal.loop-n-init
unfolding file_after items replies run_reaches noted_all
loop-n-init c = record { held = record { reached = omega arith; file = refl; said = refl }; noted = refl }

pub serve_noting-done-requires : goal.serve_noting-done-requires
unfolding sound seen
serve_noting-done-requires c =
    let whole : File = c.args.whole in
    let inv = c.loop-n.invariant.held in
    let same-chip = sym (ap (λ (f : File). f.state.chip) inv.file ∙ run-chip whole _) in (
      c.cells-cells.ensures ∙ ap cell_table same-chip,
      c.stored-stored.ensures ∙ ap stored_table same-chip,
      subst (λ (f : File). T (sound f)) (sym inv.file) (run_sound whole _ c.requires.0),
    )

pub offset_bounds-bank-bank_entry : goal.offset_bounds-bank-bank_entry
offset_bounds-bank-bank_entry c = record { fits = omega (arith, c.bank_entry.ensures.1) }

pub bounds-bank-bank_entry : goal.bounds-bank-bank_entry
bounds-bank-bank_entry c = omega (arith, c.bank_entry.ensures.1)

pub offset_bounds-palette-palette_entry : goal.offset_bounds-palette-palette_entry
offset_bounds-palette-palette_entry c = record { fits = omega (arith, c.palette_entry.ensures.1) }

pub bounds-palette-palette_entry : goal.bounds-palette-palette_entry
bounds-palette-palette_entry c = omega (arith, c.palette_entry.ensures.1)

pub offset_bounds-bank-bank_entry-then-served-3 : goal.offset_bounds-bank-bank_entry-then-served-3
offset_bounds-bank-bank_entry-then-served-3 c = record { fits = omega (arith, c.bank_entry-then-served-3.ensures.1) }

pub bounds-bank-bank_entry-then-served-3 : goal.bounds-bank-bank_entry-then-served-3
bounds-bank-bank_entry-then-served-3 c = omega (arith, c.bank_entry-then-served-3.ensures.1)

pub offset_bounds-palette-palette_entry-else-served-3 : goal.offset_bounds-palette-palette_entry-else-served-3
offset_bounds-palette-palette_entry-else-served-3 c = record { fits = omega (arith, c.palette_entry-else-served-3.ensures.1) }

pub bounds-palette-palette_entry-else-served-3 : goal.bounds-palette-palette_entry-else-served-3
bounds-palette-palette_entry-else-served-3 c = omega (arith, c.palette_entry-else-served-3.ensures.1)

pub loop-n-smaller : goal.loop-n-smaller
loop-n-smaller c = omega (arith, c.loop-n-test.true)

pub loop-n-preserved : goal.loop-n-preserved
unfolding black in_bank register seen
loop-n-preserved c =
    let turn = c.loop-n in
    let inv = turn.invariant.held in
    let more = c.loop-n-test.true in
    let asked = c.record_at-asked in
    let done = c.serve_noting-done in
    let after = done.result.served in
    let painted = c.if-served-2 in
    let value : c.if-served.value ≡ cond after.pixel (shown_in (together turn.registers turn.palette turn.bank turn.state)) after.value = elim c.if-served.branch [
      | then-served x ↦
          rw x.if-served.true
          (x.value-is ∙ x.component-value.ensures
          ∙ component-served turn.registers turn.palette turn.bank turn.state asked.result _ after done.ensures.0 _ _ _ x.if-served.true x.is_in_bank-banked.ensures x.palette_entry.ensures.0 x.bank_entry.ensures.0)
      | else-served x ↦ rw x.if-served.false x.value-is
    ] in
    let palette : painted.palette ≡ cond (after.paints && not after.bank) (set turn.palette turn.state.pointer.address after.colour) turn.palette = elim c.if-served-2.branch [
      | then-served-2+then-served-3 x ↦ rw (x.if-served-2.true, x.if-served-3.true) x.palette-is
      | then-served-2+else-served-3 x ↦
          rw (x.if-served-2.true, x.if-served-3.false) (x.palette-is ∙ ap (λ (i : ℕ). set turn.palette i after.colour) x.palette_entry-else-served-3.ensures.0)
      | else-served-2 x ↦ rw x.if-served-2.false x.palette-is
    ] in
    let bank : painted.bank ≡ cond (after.paints && after.bank) (set turn.bank (turn.state.pointer.address % bank_count) after.colour) turn.bank = elim c.if-served-2.branch [
      | then-served-2+then-served-3 x ↦
          rw (x.if-served-2.true, x.if-served-3.true) (x.bank-is ∙ ap (λ (i : ℕ). set turn.bank i after.colour) x.bank_entry-then-served-3.ensures.0)
      | then-served-2+else-served-3 x ↦ rw (x.if-served-2.true, x.if-served-3.false) x.bank-is
      | else-served-2 x ↦ rw x.if-served-2.false x.bank-is
    ] in
    record {
      held =
          held-step _ _ _ inv more (omega (arith, more, c.requires.1)) asked.result asked.ensures _ after done.ensures.0 _ value
          _ _ palette bank _ (c.put_reply.ensures.replies_after (omega (arith, buffer-long _ _ _ inv c.requires.2, more, c.requires.2)));
      noted =
          noted_step _ _ _ turn.n (omega (arith, more, c.requires.1)) turn.registers turn.palette turn.bank turn.state inv.file
          asked.result asked.ensures turn.set _ done.result.reach turn.invariant.noted done.ensures.1 c.note-set.ensures;
    }

pub shape_of-replies : goal.shape_of-replies
shape_of-replies c = buffer-long _ _ _ c.loop-n.invariant.held c.requires.2

pub returns : goal.returns
returns c =
    let inv = c.loop-n.invariant.held in
    let whole = c.args.whole in
    let trace = c.args.trace.now in
    let all : c.loop-n.n ≡ c.args.count = omega (arith, c.loop-n-test.false, inv.reached) in record {
      file_value = (
        inv.file ∙ ap (λ (k : ℕ). file_after whole (items k trace)) all,
        c.loop-n.invariant.noted ∙ ap (λ (k : ℕ). noted_all (run_reaches whole (items k trace)) c.args.touched) all,
      );
      replies_after = inv.said ∙ ap (λ (k : ℕ). replies whole (items k trace) ++ drop (8 * k) c.args.replies.now) all;
    }
