-- Two records that each check judges alike, in one direction at one place with one value, are answered alike and do the same. Assumes nothing.
use mathlib.Core.Path.{◌≡◌, refl, ap, ap₂, ◌∙◌}
use mathlib.Core.Bool.{Bool, cond}
use mathlib.Core.List.{List, [], ◌∷◌}
use Rattle.file.specs.declared.answer.Answer.{Answer}
use Rattle.file.specs.declared.effect.Effect.{Effect}
use Rattle.file.specs.declared.registers.File.{File}
use Rattle.file.specs.Answers.{code_of, value_of}
use Rattle.file.specs.Effects.{apply}
use Rattle.places.specs.declared.place.Place.{Place}
use Rattle.access.specs.declared.record.Record.{Record}
use Rattle.access.specs.Access.{answer_at, answer, effect, reply_to, access, place_of}
use Rattle.access.specs.Checks.{Check, carries, checks, first_refusal}
use Rattle.two_roads.specs.Agree.{Agree}

module _ (f : File) (r s : Record) where
  -- each check of a list refuses both records or neither
  abbrev pub JudgedAlike : List Check → Type 0
  JudgedAlike [] = Unit {0}
  JudgedAlike (c ∷ cs) = (c.refuses f r ≡ c.refuses f s) × JudgedAlike cs

  refused-alike : (cs : List Check) → JudgedAlike cs → (otherwise : Answer) → first_refusal cs f r otherwise ≡ first_refusal cs f s otherwise
  unfolding first_refusal
  refused-alike [] j otherwise = refl
  refused-alike (c ∷ cs) j otherwise = ap₂ (λ (b : Bool) (a : Answer). cond b c.answer a) j.0 (refused-alike cs j.1 otherwise)

  pub judged-agree : JudgedAlike checks → carries r ≡ carries s → place_of f r ≡ place_of f s → r.value ≡ s.value → Agree f r s
  unfolding answer effect access reply_to
  judged-agree judged direction place value =
      record { code = ap code_of answered; value = ap value_of answered; file = ap (λ (e : Effect). apply e f) done }
    where
      answered : answer f r ≡ answer f s
      answered =
          refused-alike checks judged (answer_at (carries r) f (place_of f r))
          ∙ ap₂ (λ (w : Bool) (p : Place). first_refusal checks f s (answer_at w f p)) direction place

      done : effect f r ≡ effect f s
      done = rw (answered, direction, place, value)
