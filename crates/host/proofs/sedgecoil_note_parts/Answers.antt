-- `sedgecoil_note_parts` meets its contract. Assumes nothing.
use Prim.Native.Nat.{◌≤◌}
use mathlib.Core.Path.{sym, ap, ap₂, ◌∙◌}
use native.Mathlib.Omega.{arith}
use Rattle.std.specs.Prelude.{Ok, Err}
use Rattle.file.specs.Answers.{code_of}
use Rattle.access.specs.Access.{read_reach, answer_with}
use Rattle.access.proofs.HandsBack.{reach-unsound}
use Rattle.touched.specs.Noted.{noted}
use Rattle.image.specs.Parts.{set_bytes}
use Rattle.host.proofs.Told.{refusing, doing, note-unfit, note-told}
use Rattle.host.proofs.sedgecoil_note_parts.Goals as goal

pub returns-then-not-fits : goal.returns-then-not-fits
unfolding code_of
returns-then-not-fits c = rw c.code.ensures (note-unfit _ _ _ _ (sym c.fits.ensures ∙ c.if-not-fits.true))

pub returns-in-Err : goal.returns-in-Err
unfolding answer_with code_of
returns-in-Err c =
    let told = sym (c.reach.ensures ∙ ap₂ read_reach c.held.ensures c.record_in.ensures) ∙ c.in-Err.is in
    let number = c.code-in-Err.ensures in
    let twelve = number ∙ ap code_of (reach-unsound _ _ _ told) in
    let over : 2 ≤ c.code-in-Err.result = omega (arith, twelve) in
    note-told _ _ _ _ (sym c.fits.ensures ∙ c.if-not-fits.false) (Err c.in-Err.refusal) (sym told) c.code-in-Err.result number _ (refusing _ _ _ over)

pub returns-in-Ok : goal.returns-in-Ok
unfolding answer_with code_of
returns-in-Ok c =
    let told = sym (c.reach.ensures ∙ ap₂ read_reach c.held.ensures c.record_in.ensures) ∙ c.in-Ok.is in
    note-told _ _ _ _ (sym c.fits.ensures ∙ c.if-not-fits.false) (Ok c.in-Ok.reach) (sym told) 0 (λ i. 0) c.set_bytes.result
    (doing 0 c.args.set.now _ c.set_bytes.result (omega arith) (c.set_bytes.ensures ∙ ap set_bytes (c.note.ensures ∙ ap (noted c.in-Ok.reach) c.set_in.ensures)))
