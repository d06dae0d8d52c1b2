-- `write_row` meets its contract. Assumes nothing.
use mathlib.Core.Logic.{inl, inr}
use mathlib.Core.Path.{subst, sym}
use lib.Dec.{T}
use Rattle.file.specs.Answers.{code_of, refused}
use Rattle.file.specs.Effects.{apply}
use Rattle.places.specs.declared.place.Place.{Place}
use Rattle.places.specs.EngineCells.{takes_bytes}
use Rattle.places.specs.Profile.{profile}
use Rattle.access.specs.Access.{write_answer, write_effect}
use Rattle.access.proofs.PassedChecks.{register-below, attribute-below}
use Rattle.plain.specs.Told.{told, write_told}
use Rattle.plain.proofs.writing.write_row.Goals as goal

pub write_register-requires : goal.write_register-requires
write_register-requires c = register-below _ _ c.in-Register.is c.requires.t

pub write_register-requires-in-Attribute : goal.write_register-requires-in-Attribute
write_register-requires-in-Attribute c = attribute-below _ _ c.in-Attribute.is c.requires.t

pub overflow_cast-value : goal.overflow_cast-value
unfolding takes_bytes profile
overflow_cast-value c = record { fits = c.requires.value_bound (subst (λ (p : Place). T (takes_bytes (profile p).writing)) (sym c.in-ReadAddress.is) tt) }

pub overflow_cast-value-in-WriteAddress : goal.overflow_cast-value-in-WriteAddress
unfolding takes_bytes profile
overflow_cast-value-in-WriteAddress c = record { fits = c.requires.value_bound (subst (λ (p : Place). T (takes_bytes (profile p).writing)) (sym c.in-WriteAddress.is) tt) }

pub overflow_cast-value-in-PixelData : goal.overflow_cast-value-in-PixelData
unfolding takes_bytes profile
overflow_cast-value-in-PixelData c = record { fits = c.requires.value_bound (subst (λ (p : Place). T (takes_bytes (profile p).writing)) (sym c.in-PixelData.is) tt) }

pub returns-in-Register : goal.returns-in-Register
unfolding profile write_told told write_answer write_effect refused code_of apply
returns-in-Register c = rw c.in-Register.is c.write_register.ensures

pub returns-in-Attribute : goal.returns-in-Attribute
unfolding profile write_told told write_answer write_effect refused code_of apply
returns-in-Attribute c = rw c.in-Attribute.is c.write_register-in-Attribute.ensures

pub returns-in-PaletteState : goal.returns-in-PaletteState
unfolding profile write_told told write_answer write_effect refused code_of apply
returns-in-PaletteState c = rw c.in-PaletteState.is c.write_register-in-PaletteState.ensures

pub returns-in-VPortState : goal.returns-in-VPortState
unfolding profile write_told told write_answer write_effect refused code_of apply
returns-in-VPortState c = rw c.in-VPortState.is c.write_register-in-VPortState.ensures

pub returns-in-ReadAddress : goal.returns-in-ReadAddress
unfolding profile write_told told write_answer write_effect refused code_of apply
returns-in-ReadAddress c = rw c.in-ReadAddress.is c.write_address.ensures

pub returns-in-WriteAddress : goal.returns-in-WriteAddress
unfolding profile write_told told write_answer write_effect refused code_of apply
returns-in-WriteAddress c = rw c.in-WriteAddress.is c.write_address-in-WriteAddress.ensures

pub returns-in-PixelData : goal.returns-in-PixelData
unfolding profile write_told told write_answer write_effect refused code_of apply
returns-in-PixelData c = rw c.in-PixelData.is c.write_pixel.ensures

pub returns-in-Fixed : goal.returns-in-Fixed
unfolding profile write_told told write_answer write_effect refused code_of apply
returns-in-Fixed c =
    elim c.in-Fixed.is [
      | inl (v, e) ↦ rw e c.leaving.ensures
      | inr a ↦
          elim a [
            | inl e ↦ rw e c.leaving.ensures
            | inr b ↦
                elim b [
                  | inl e ↦ rw e c.leaving.ensures
                  | inr d ↦
                      elim d [
                        | inl e ↦ rw e c.leaving.ensures
                        | inr f ↦ elim f [ inl e ↦ rw e c.leaving.ensures | inr e ↦ rw e c.leaving.ensures ]
                      ]
                ]
          ]
    ]

pub returns-in-Passing : goal.returns-in-Passing
unfolding profile write_told told write_answer write_effect refused code_of apply
returns-in-Passing c = rw c.in-Passing.is c.pass_lines.ensures

pub returns-in-Unnamed : goal.returns-in-Unnamed
unfolding profile write_told told write_answer write_effect refused code_of apply
returns-in-Unnamed c = rw c.in-Unnamed.is c.leaving-in-Unnamed.ensures

pub returns-in-UnnamedAttribute : goal.returns-in-UnnamedAttribute
unfolding profile write_told told write_answer write_effect refused code_of apply
returns-in-UnnamedAttribute c = rw (c.in-UnnamedAttribute.is, c.with_state.ensures, c.toggling.ensures)
