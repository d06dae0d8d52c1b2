-- `write_at` meets its contract. Assumes nothing.
use Rattle.access.specs.Access.{locked_out, write_answer, write_effect}
use Rattle.access.specs.Engine.{reach_by, decided_write}
use Rattle.file.specs.Answers.{code_of, refused}
use Rattle.file.specs.File.{seen, register, crtc_locked}
use Rattle.places.specs.EngineCells.{taken}
use Rattle.places.specs.Profile.{profile}
use Rattle.access.proofs.PassedChecks.{register-below, attribute-below}
use mathlib.Core.Logic.{inl, inr}
use Rattle.access.proofs.engine.write_at.Goals as goal

pub write_register-requires : goal.write_register-requires
write_register-requires c = register-below _ _ c.in-Register.is c.requires

pub write_register-requires-in-Attribute : goal.write_register-requires-in-Attribute
write_register-requires-in-Attribute c = attribute-below _ _ c.in-Attribute.is c.requires

pub returns-in-Register : goal.returns-in-Register
unfolding profile decided_write write_answer write_effect taken locked_out crtc_locked reach_by refused code_of seen register
returns-in-Register c = rw c.in-Register.is c.write_register.ensures

pub returns-in-Attribute : goal.returns-in-Attribute
unfolding profile decided_write write_answer write_effect taken locked_out crtc_locked reach_by refused code_of seen register
returns-in-Attribute c = rw c.in-Attribute.is c.write_register-in-Attribute.ensures

pub returns-in-PaletteState : goal.returns-in-PaletteState
unfolding profile decided_write write_answer write_effect taken locked_out crtc_locked reach_by refused code_of seen register
returns-in-PaletteState c = rw c.in-PaletteState.is c.write_register-in-PaletteState.ensures

pub returns-in-ReadAddress : goal.returns-in-ReadAddress
unfolding profile decided_write write_answer write_effect taken locked_out crtc_locked reach_by refused code_of seen register
returns-in-ReadAddress c = rw (c.in-ReadAddress.is, ← c.addressed.ensures) c.done.ensures

pub returns-in-WriteAddress : goal.returns-in-WriteAddress
unfolding profile decided_write write_answer write_effect taken locked_out crtc_locked reach_by refused code_of seen register
returns-in-WriteAddress c = rw (c.in-WriteAddress.is, ← c.addressed-in-WriteAddress.ensures) c.done-in-WriteAddress.ensures

pub returns-in-PixelData : goal.returns-in-PixelData
unfolding profile decided_write write_answer write_effect taken locked_out crtc_locked reach_by refused code_of seen register
returns-in-PixelData c = rw c.in-PixelData.is c.write_pixel.ensures

pub returns-in-UnnamedAttribute : goal.returns-in-UnnamedAttribute
unfolding profile decided_write write_answer write_effect taken locked_out crtc_locked reach_by refused code_of seen register
returns-in-UnnamedAttribute c = rw c.in-UnnamedAttribute.is

pub returns-in-Unnamed : goal.returns-in-Unnamed
unfolding profile decided_write write_answer write_effect taken locked_out crtc_locked reach_by refused code_of seen register
returns-in-Unnamed c = rw c.in-Unnamed.is c.only.ensures

pub returns-in-Fixed : goal.returns-in-Fixed
unfolding profile decided_write write_answer write_effect taken locked_out crtc_locked reach_by refused code_of seen register
returns-in-Fixed c =
    elim c.in-Fixed.is [
      | inl (v, e) ↦ rw e c.only-in-Fixed.ensures
      | inr a ↦
          elim a [
            | inl e ↦ rw e c.only-in-Fixed.ensures
            | inr b ↦
                elim b [
                  | inl e ↦ rw e c.only-in-Fixed.ensures
                  | inr d ↦
                      elim d [
                        | inl e ↦ rw e c.only-in-Fixed.ensures
                        | inr f ↦ elim f [ inl e ↦ rw e c.only-in-Fixed.ensures | inr e ↦ rw e c.only-in-Fixed.ensures ]
                      ]
                ]
          ]
    ]

pub returns-in-VPortState : goal.returns-in-VPortState
unfolding profile decided_write write_answer write_effect taken locked_out crtc_locked reach_by refused code_of seen register
returns-in-VPortState c = rw c.in-VPortState.is c.write_register-in-VPortState.ensures

pub returns-in-Passing : goal.returns-in-Passing
unfolding profile decided_write write_answer write_effect taken locked_out crtc_locked reach_by refused code_of seen register
returns-in-Passing c = rw c.in-Passing.is c.pass_lines.ensures
