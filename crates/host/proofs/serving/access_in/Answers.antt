-- `access_in` meets its contract. Assumes nothing.
use Prim.Native.Nat.{◌<◌}
use mathlib.Core.Path.{refl, sym, ◌∙◌}
use mathlib.Core.Bool.{true, false}
use Rattle.bits.proofs.Test.{passes, and-false}
use Rattle.file.specs.State.{state_sound}
use Rattle.file.specs.Registers.{stored_table}
use Rattle.file.specs.Sound.{all_within}
use Rattle.image.specs.Parts.{state_in}
use Rattle.host.proofs.Accessed.{unfit, both, tested, refuse, accessed, left_as}
use Rattle.host.proofs.Known.{by_key}
use Rattle.host.proofs.serving.access_in.Goals as goal

pub returns-then-not-fits : goal.returns-then-not-fits
returns-then-not-fits c =
    refuse _ _ _ (unfit c.args.registers.now c.args.rest.now (sym c.fits.ensures ∙ c.if-not-fits.true))

pub returns-then-not-state_sound : goal.returns-then-not-state_sound
returns-then-not-state_sound c =
    let registers = c.args.registers.now in
    let state = c.state_in-state in
    refuse _ _ _
    (tested registers c.args.rest.now state.result state.ensures (all_within (stored_table state.result.chip) registers) false (sym c.fits.ensures ∙ c.if-not-fits.false) refl (sym c.state_sound.ensures ∙ c.if-not-state_sound.true)
    ∙ and-false (all_within (stored_table state.result.chip) registers))

pub returns-then-not-are_stored : goal.returns-then-not-are_stored
returns-then-not-are_stored c =
    let state = c.state_in-state in
    refuse _ _ _
    (tested c.args.registers.now c.args.rest.now state.result state.ensures false (state_sound state.result) (sym c.fits.ensures ∙ c.if-not-fits.false) (sym c.are_stored.ensures ∙ c.if-not-are_stored.true) refl)

pub serve-served-requires : goal.serve-served-requires
serve-served-requires c = passes _ (both c.args.registers.now c.state_in-state.result true true (sym c.are_stored.ensures ∙ c.if-not-are_stored.false) (sym c.state_sound.ensures ∙ c.if-not-state_sound.false))

pub returns-in_default : goal.returns-in_default
unfolding state_in
returns-in_default c =
    let registers = c.args.registers.now in
    let rest = c.args.rest.now in
    let state = c.state_in-state in
    let byte : (state_in rest).pointer.address < 256 = c.fits-rest 2 in
    left_as c.record_in.ensures
    (accessed registers rest c.told-rest state.result state.ensures byte _ _ c.serve-served.result c.serve-served.ensures _ refl _ c.finish.ensures.rest_after _ c.finish.ensures.value
    (tested registers rest state.result state.ensures true true (sym c.fits.ensures ∙ c.if-not-fits.false) (sym c.are_stored.ensures ∙ c.if-not-are_stored.false) (sym c.state_sound.ensures ∙ c.if-not-state_sound.false)))

pub serve_known-served-requires : goal.serve_known-served-requires
serve_known-served-requires c =
    (c.in-Some.ensures, passes _ (both c.args.registers.now c.state_in-state.result true true (sym c.are_stored.ensures ∙ c.if-not-are_stored.false) (sym c.state_sound.ensures ∙ c.if-not-state_sound.false)))

pub returns : goal.returns
unfolding state_in
returns c =
    let registers = c.args.registers.now in
    let rest = c.args.rest.now in
    let state = c.state_in-state in
    let byte : (state_in rest).pointer.address < 256 = c.fits-rest 2 in
    left_as (sym (by_key c.args.asked))
    (accessed registers rest c.told-rest state.result state.ensures byte _ _ c.serve_known-served.result c.serve_known-served.ensures _ refl _ c.finish-2.ensures.rest_after _ c.finish-2.ensures.value
    (tested registers rest state.result state.ensures true true (sym c.fits.ensures ∙ c.if-not-fits.false) (sym c.are_stored.ensures ∙ c.if-not-are_stored.false) (sym c.state_sound.ensures ∙ c.if-not-state_sound.false)))
