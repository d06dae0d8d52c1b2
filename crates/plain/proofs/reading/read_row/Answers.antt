-- `read_row` meets its contract. Assumes nothing.
use Prim.Native.Nat.{ℕ}
use mathlib.Core.Path.{◌≡◌, refl, sym, ap, ◌∙◌}
use mathlib.Core.Logic.{inl, inr}
use mathlib.Core.Bool.{cond}
use native.Mathlib.Omega.{arith}
use Rattle.file.specs.declared.answer.Answer.TheVariants.{Done}
use Rattle.file.specs.Answers.{code_of, refused}
use Rattle.file.specs.Effects.{apply}
use Rattle.file.specs.File.{register}
use Rattle.places.specs.Profile.{profile}
use Rattle.access.specs.Access.{answer_of_read, read_effect, shown_state}
use Rattle.access.proofs.PassedChecks.{register-below, attribute-below}
use Rattle.plain.specs.Told.{told, told_of_read}
use Rattle.plain.proofs.SeenWhole.{port_seen, shown_seen, display_seen}
use Rattle.plain.proofs.reading.read_row.Goals as goal
use Rattle.plain.proofs.reading.read_row.Goals.{then-state, else-state}

pub offset_bounds-registers-number : goal.offset_bounds-registers-number
offset_bounds-registers-number c =
    elim c.in-Register.is [
      | inl e ↦ record { fits = omega (arith, register-below _ _ e c.requires) }
      | inr e ↦ record { fits = omega (arith, attribute-below _ _ e c.requires) }
    ]

pub bounds-registers-number : goal.bounds-registers-number
bounds-registers-number c =
    elim c.in-Register.is [ inl e ↦ register-below _ _ e c.requires | inr e ↦ attribute-below _ _ e c.requires ]

pub returns-in-Register : goal.returns-in-Register
unfolding profile told_of_read told answer_of_read read_effect refused code_of apply register shown_state
returns-in-Register c =
    elim c.in-Register.is [ inl e ↦ rw e c.leaving-in-Register.ensures | inr e ↦ rw e c.leaving-in-Register.ensures ]

pub returns-in-PaletteState : goal.returns-in-PaletteState
unfolding profile told_of_read told answer_of_read read_effect refused code_of apply register shown_state
returns-in-PaletteState c = rw (c.in-PaletteState.is, ← c.palette_state.ensures) c.leaving.ensures

pub returns-in-VPortState : goal.returns-in-VPortState
unfolding profile told_of_read told answer_of_read read_effect refused code_of apply register shown_state
returns-in-VPortState c = rw (c.in-VPortState.is, ← (c.v_port_state.ensures ∙ port_seen c.args.whole)) c.leaving-in-VPortState.ensures

pub returns-in-Fixed : goal.returns-in-Fixed
unfolding profile told_of_read told answer_of_read read_effect refused code_of apply register shown_state
returns-in-Fixed c = rw c.in-Fixed.is c.leaving-in-Fixed.ensures

pub returns-in-DeviceId : goal.returns-in-DeviceId
unfolding profile told_of_read told answer_of_read read_effect refused code_of apply register shown_state
returns-in-DeviceId c = rw (c.in-DeviceId.is, ← c.device_id.ensures) c.leaving-in-DeviceId.ensures

pub returns-after-state : goal.returns-after-state
unfolding profile told_of_read told answer_of_read read_effect refused code_of apply register shown_state
returns-after-state c =
    let shown : c.if-state.leaving ≡ cond c.args.whole.state.toggle 0x80 0x00 =
    elim c.if-state.branch [ then-state w ↦ w.leaving-is ∙ sym (rw w.if-state.true refl) | else-state w ↦ w.leaving-is ∙ sym (rw w.if-state.false refl) ] in
    rw c.in-ToggleState.is (c.leaving-in-ToggleState.ensures ∙ ap (λ (n : ℕ). record { answer = Done n; file = c.args.whole }) shown)

pub returns-in-AttributeIndex : goal.returns-in-AttributeIndex
unfolding profile told_of_read told answer_of_read read_effect refused code_of apply register shown_state
returns-in-AttributeIndex c = rw c.in-AttributeIndex.is c.leaving-in-AttributeIndex.ensures

pub returns-in-ReadAddress : goal.returns-in-ReadAddress
unfolding profile told_of_read told answer_of_read read_effect refused code_of apply register shown_state
returns-in-ReadAddress c = rw (c.in-ReadAddress.is, ← c.dac_state.ensures) c.leaving-in-ReadAddress.ensures

pub returns-in-WriteAddress : goal.returns-in-WriteAddress
unfolding profile told_of_read told answer_of_read read_effect refused code_of apply register shown_state
returns-in-WriteAddress c = rw c.in-WriteAddress.is c.leaving-in-WriteAddress.ensures

pub returns-in-PixelData : goal.returns-in-PixelData
unfolding profile told_of_read told answer_of_read read_effect refused code_of apply register shown_state
returns-in-PixelData c = rw c.in-PixelData.is c.read_pixel.ensures

pub returns-in-ToggleReset : goal.returns-in-ToggleReset
unfolding profile told_of_read told answer_of_read read_effect refused code_of apply register shown_state
returns-in-ToggleReset c =
    rw (c.in-ToggleReset.is, c.with_state.ensures, c.toggling.ensures, c.display_state.ensures ∙ display_seen c.args.whole)

pub returns-in-Unnamed : goal.returns-in-Unnamed
unfolding profile told_of_read told answer_of_read read_effect refused code_of apply register shown_state
returns-in-Unnamed c =
    elim c.in-Unnamed.is [
      | inl e ↦ rw e c.leaving-in-Unnamed.ensures
      | inr a ↦ elim a [ inl e ↦ rw e c.leaving-in-Unnamed.ensures | inr e ↦ rw e c.leaving-in-Unnamed.ensures ]
    ]

pub returns-in-CurrentLine : goal.returns-in-CurrentLine
unfolding profile told_of_read told answer_of_read read_effect refused code_of apply register shown_state
returns-in-CurrentLine c = rw (c.in-CurrentLine.is, ← (c.line_shown.ensures ∙ shown_seen c.args.whole)) c.leaving-in-CurrentLine.ensures
