-- One access on registers and state, decided by 01's tables and put, is 01's. Assumes nothing.
use Prim.Native.Nat.{ℕ}
use mathlib.Core.Path.{◌≡◌, refl, sym, ap, ◌∙◌, subst₂}
use mathlib.Core.Bool.{Bool, true, false, true≢false}
use mathlib.Core.List.{List}
use lib.Dec.{T}
use Rattle.file.specs.declared.effect.Effect.{Effect}
use Rattle.file.specs.declared.effect.Effect.TheVariants.{Nothing, Store, Toggle, Move, Step, Paint, Pass}
use Rattle.file.specs.declared.palette.Colour.{Colour}
use Rattle.file.specs.declared.state.State.{State}
use Rattle.file.specs.Answers.{code_of, value_of}
use Rattle.file.specs.Effects.{apply}
use Rattle.file.specs.File.{seen}
use Rattle.access.specs.declared.engine.Decision.{Decision}
use Rattle.access.specs.declared.record.Record.{Record}
use Rattle.access.specs.Access.{effect}
use Rattle.access.specs.Engine.{decision}
use Rattle.trace.specs.declared.running.Served.{Served}
use Rattle.trace.specs.EngineServed.{paints, paints_bank, paints_colour, lands, Answered, Puts, Serves}
use Rattle.trace.proofs.EffectsInParts.{effect-lands}

-- where an effect paints, what was told before plays no part
bank-told : (e : Effect) (b : Bool) → paints e ≡ true → paints_bank b e ≡ paints_bank false e
unfolding paints paints_bank
bank-told Nothing b p = absurd (true≢false (sym p))
bank-told (Store flips number reach value) b p = absurd (true≢false (sym p))
bank-told (Toggle toggle) b p = absurd (true≢false (sym p))
bank-told (Move pointer) b p = absurd (true≢false (sym p))
bank-told (Step pointer marks) b p = absurd (true≢false (sym p))
bank-told (Paint bank entry pointer colour marks) b p = refl
bank-told (Pass line) b p = absurd (true≢false (sym p))

pub colour-told : (e : Effect) (c d : Colour) → paints e ≡ true → paints_colour c e ≡ paints_colour d e
unfolding paints paints_colour
colour-told Nothing c d p = absurd (true≢false (sym p))
colour-told (Store flips number reach value) c d p = absurd (true≢false (sym p))
colour-told (Toggle toggle) c d p = absurd (true≢false (sym p))
colour-told (Move pointer) c d p = absurd (true≢false (sym p))
colour-told (Step pointer marks) c d p = absurd (true≢false (sym p))
colour-told (Paint bank entry pointer colour marks) c d p = refl
colour-told (Pass line) c d p = absurd (true≢false (sym p))

module _ (registers : List ℕ) (state : State) (asked : Record) (d : Decision) (decided : d ≡ decision (seen registers state) asked)
    (before : Served) (a : Answered d.answer d.pixel state before) (after : List ℕ) (s : Served) (p : Puts registers before d.effect after s) where
  abbrev E : Effect
  E = effect (seen registers state) asked

  its-effect : d.effect ≡ E
  unfolding decision
  its-effect = ap (λ (x : Decision). x.effect) decided

  landed : T (lands before.state d.effect)
  unfolding seen
  landed = subst₂ (λ (q : State) (e : Effect). T (lands q e)) (sym a.state) (sym its-effect) (effect-lands (seen registers state) asked)

  painting : s.paints ≡ paints E
  painting = p.painting a.unpainted ∙ ap paints its-effect

  pub serves : Serves (seen registers state) asked after s
  unfolding decision
  serves =
      record {
        code = p.code ∙ a.code ∙ ap (λ (x : Decision). code_of x.answer) decided;
        value = p.value ∙ a.value ∙ ap (λ (x : Decision). value_of x.answer) decided;
        pixel = p.pixel ∙ a.pixel ∙ ap (λ (x : Decision). x.pixel) decided;
        left =
            sym (ap (λ (e : Effect). apply e (seen registers state)) its-effect)
            ∙ sym (ap (λ (q : State). apply d.effect (seen registers q)) a.state)
            ∙ p.left landed;
        painting = painting;
        bank = λ t. p.bank ∙ ap (paints_bank before.bank) its-effect ∙ bank-told E before.bank (sym painting ∙ t);
        colour = λ t. p.colour ∙ ap (paints_colour before.colour) its-effect ∙ colour-told E before.colour s.colour (sym painting ∙ t);
      }
