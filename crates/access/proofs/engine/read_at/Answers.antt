-- `read_at` meets its contract. Assumes nothing.
use native.Mathlib.Omega.{arith}
use Rattle.access.specs.Access.{answer_of_read, read_effect}
use Rattle.access.specs.Engine.{decided_read}
use Rattle.file.specs.Answers.{code_of, refused}
use Rattle.file.specs.File.{seen, register}
use Rattle.places.specs.Profile.{profile, reads_pixel}
use Rattle.access.proofs.PassedChecks.{register-below, attribute-below}
use mathlib.Core.Path.{◌≡◌, refl, sym, ap, ◌∙◌}
use Prim.Native.Nat.{ℕ}
use mathlib.Core.Logic.{inl, inr}
use mathlib.Core.Bool.{cond, false}
use Rattle.file.specs.declared.answer.Answer.TheVariants.{Done}
use Rattle.file.specs.declared.effect.Effect.TheVariants.{Nothing}
use Rattle.access.proofs.engine.read_at.Goals as goal
use Rattle.access.proofs.engine.read_at.Goals.{then-state, else-state}

pub offset_bounds-registers-number : goal.offset_bounds-registers-number
offset_bounds-registers-number c =
    elim c.in-Register.is [
      | inl e ↦ record { fits = omega (arith, register-below _ _ e c.requires) }
      | inr e ↦ record { fits = omega (arith, attribute-below _ _ e c.requires) }
    ]

pub bounds-registers-number : goal.bounds-registers-number
bounds-registers-number c =
    elim c.in-Register.is [ inl e ↦ register-below _ _ e c.requires | inr e ↦ attribute-below _ _ e c.requires ]

pub returns-in-Register : goal.returns-in-Register
unfolding profile decided_read answer_of_read read_effect reads_pixel refused code_of seen register
returns-in-Register c =
    elim c.in-Register.is [ inl e ↦ rw e c.only-in-Register.ensures | inr e ↦ rw e c.only-in-Register.ensures ]

pub returns-in-Fixed : goal.returns-in-Fixed
unfolding profile decided_read answer_of_read read_effect reads_pixel refused code_of seen register
returns-in-Fixed c = rw c.in-Fixed.is c.only.ensures

pub returns-after-state : goal.returns-after-state
unfolding profile decided_read answer_of_read read_effect reads_pixel refused code_of seen register
returns-after-state c =
    let shown : c.if-state.only ≡ cond c.args.state.toggle 0x80 0x00 =
    elim c.if-state.branch [ then-state w ↦ w.only-is ∙ sym (rw w.if-state.true refl) | else-state w ↦ w.only-is ∙ sym (rw w.if-state.false refl) ] in
    rw c.in-ToggleState.is (c.only-in-ToggleState.ensures ∙ ap (λ (n : ℕ). record { answer = Done n; effect = Nothing; pixel = false }) shown)

pub returns-in-AttributeIndex : goal.returns-in-AttributeIndex
unfolding profile decided_read answer_of_read read_effect reads_pixel refused code_of seen register
returns-in-AttributeIndex c = rw c.in-AttributeIndex.is c.only-in-AttributeIndex.ensures

pub returns-in-PaletteState : goal.returns-in-PaletteState
unfolding profile decided_read answer_of_read read_effect reads_pixel refused code_of seen register
returns-in-PaletteState c = rw (c.in-PaletteState.is, ← c.palette_state.ensures) c.only-in-PaletteState.ensures

pub returns-in-ReadAddress : goal.returns-in-ReadAddress
unfolding profile decided_read answer_of_read read_effect reads_pixel refused code_of seen register
returns-in-ReadAddress c = rw (c.in-ReadAddress.is, ← c.dac_state.ensures) c.only-in-ReadAddress.ensures

pub returns-in-WriteAddress : goal.returns-in-WriteAddress
unfolding profile decided_read answer_of_read read_effect reads_pixel refused code_of seen register
returns-in-WriteAddress c = rw c.in-WriteAddress.is c.only-in-WriteAddress.ensures

pub returns-in-PixelData : goal.returns-in-PixelData
unfolding profile decided_read answer_of_read read_effect reads_pixel refused code_of seen register
returns-in-PixelData c = rw c.in-PixelData.is c.read_pixel.ensures

pub returns-in-ToggleReset : goal.returns-in-ToggleReset
unfolding profile decided_read answer_of_read read_effect reads_pixel refused code_of seen register
returns-in-ToggleReset c = rw (c.in-ToggleReset.is, ← c.display_state.ensures)

pub returns-in-Unnamed : goal.returns-in-Unnamed
unfolding profile decided_read answer_of_read read_effect reads_pixel refused code_of seen register
returns-in-Unnamed c =
    elim c.in-Unnamed.is [
      | inl e ↦ rw e c.only-in-Unnamed.ensures
      | inr a ↦ elim a [ inl e ↦ rw e c.only-in-Unnamed.ensures | inr e ↦ rw e c.only-in-Unnamed.ensures ]
    ]

pub returns-in-DeviceId : goal.returns-in-DeviceId
unfolding profile decided_read answer_of_read read_effect reads_pixel refused code_of seen register
returns-in-DeviceId c = rw (c.in-DeviceId.is, ← c.device_id.ensures) c.only-in-DeviceId.ensures

pub returns-in-VPortState : goal.returns-in-VPortState
unfolding profile decided_read answer_of_read read_effect reads_pixel refused code_of seen register
returns-in-VPortState c = rw (c.in-VPortState.is, ← c.v_port_state.ensures) c.only-in-VPortState.ensures

pub returns-in-CurrentLine : goal.returns-in-CurrentLine
unfolding profile decided_read answer_of_read read_effect reads_pixel refused code_of seen register
returns-in-CurrentLine c = rw (c.in-CurrentLine.is, ← c.line_shown.ensures) c.only-in-CurrentLine.ensures
