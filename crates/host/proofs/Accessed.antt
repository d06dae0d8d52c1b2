-- An access on registers and a rest is the access to the file that they are. Assumes nothing.
use Prim.Native.Nat.{ℕ, ◌+◌, ◌*◌, ◌%◌, ◌<◌}
use mathlib.Core.Path.{◌≡◌, refl, sym, ap, ap₂, ◌∙◌, subst, subst₂}
use mathlib.Core.Bool.{Bool, true, false, cond, true≢false, ◌&&◌}
use mathlib.Core.List.{List}
use native.Mathlib.Omega.{arith}
use lib.ListN.{length}
use Rattle.bits.proofs.Test.{by-test}
use Rattle.file.specs.declared.state.State.{State}
use Rattle.file.specs.File.{seen, bank_count}
use Rattle.file.specs.Palette.{component}
use Rattle.file.specs.Registers.{stored_table}
use Rattle.file.specs.Sound.{all_within, sound}
use Rattle.file.specs.State.{state_sound}
use Rattle.access.specs.declared.record.Record.{Record}
use Rattle.access.specs.Access.{in_bank, shown_in, access}
use Rattle.trace.specs.declared.running.Served.{Served}
use Rattle.trace.specs.EngineServed.{Serves}
use Rattle.trace.proofs.RunLoop.{file-served, code-served, value-served, component-served}
use Rattle.image.specs.Parts.{palette_at, bank_at, rest_count, state_in, fits_in, held_in, sound_in}
use Rattle.host.specs.Left.{colour_at, rest_left, Accesses, AccessLeft}
use Rattle.host.specs.Numbers.{told, not_sound}
use Rattle.host.proofs.EveryByte.{left-fits}
use Rattle.host.proofs.RestHeld.{palette_of, bank_of, rest-held, palette-entry, bank-entry}

-- ---- sound or not

pub unfit : (registers rest : List ℕ) → fits_in rest ≡ false → sound_in registers rest ≡ false
unfolding sound_in
unfit registers rest e = rw e

pub by_parts : (registers rest : List ℕ) (b : Bool) → fits_in rest ≡ true → sound (seen registers (state_in rest)) ≡ b → sound_in registers rest ≡ b
unfolding sound_in sound seen held_in
by_parts registers rest b e f = rw e f

-- the two tests of soundness
pub both : (registers : List ℕ) (st : State) (a b : Bool) → all_within (stored_table st.chip) registers ≡ a → state_sound st ≡ b → sound (seen registers st) ≡ (a && b)
unfolding sound seen
both registers st a b e f = rw (e, f)

pub tested : (registers rest : List ℕ) (st : State) → st ≡ state_in rest → (a b : Bool) → fits_in rest ≡ true → all_within (stored_table st.chip) registers ≡ a → state_sound st ≡ b
    → sound_in registers rest ≡ (a && b)
tested registers rest st same a b fit e f = by_parts registers rest (a && b) fit (ap (λ (s : State). sound (seen registers s)) (sym same) ∙ both registers st a b e f)

pub refuse : (asked : Record) (registers rest : List ℕ) → sound_in registers rest ≡ false → AccessLeft asked registers rest registers rest not_sound
refuse asked registers rest e =
    record { done = λ t. absurd (true≢false (sym t ∙ e)); refused = λ f. record { registers = refl; rest = refl; said = refl } }

pub accept : (asked : Record) (registers rest registers' rest' : List ℕ) (number : ℕ) → sound_in registers rest ≡ true
    → Accesses asked registers rest registers' rest' number → AccessLeft asked registers rest registers' rest' number
accept asked registers rest registers' rest' number e a = record { done = λ t. a; refused = λ f. absurd (true≢false (sym e ∙ f)) }

-- ---- an access that is served

module _ (registers rest : List ℕ) (long : length rest ≡ rest_count) (address : (state_in rest).pointer.address < 256) (asked : Record) (after : List ℕ) (s : Served)
    (served : Serves (seen registers (state_in rest)) asked after s) where
  abbrev state : State
  state = state_in rest

  abbrev shown_there : ℕ
  shown_there = component (cond (in_bank (seen after state)) (colour_at rest (bank_at + 3 * (state.pointer.address % bank_count))) (colour_at rest (palette_at + 3 * state.pointer.address))) state.pointer.next

  -- the component that is shown
  shown-held : s.pixel ≡ true → shown_there ≡ shown_in (held_in registers rest)
  unfolding held_in
  shown-held p =
      (λ i. component (cond (in_bank (seen after state)) (sym (bank-entry rest long (state.pointer.address % bank_count) (omega arith)) i) (sym (palette-entry rest long state.pointer.address address) i)) state.pointer.next)
      ∙ component-served registers (palette_of rest) (bank_of rest) state asked after s served (in_bank (seen after state)) state.pointer.address (state.pointer.address % bank_count) p refl refl refl

  value-held : (value : ℕ) → value ≡ cond s.pixel shown_there s.value → value ≡ cond s.pixel (shown_in (held_in registers rest)) s.value
  value-held value e = e ∙ by-test s.pixel (λ p. rw p (shown-held p)) (λ p. rw p)

  pub accesses : (value : ℕ) → value ≡ cond s.pixel shown_there s.value → Accesses asked registers rest after (rest_left state s rest) (told s.code value)
  unfolding held_in access
  accesses value e =
      record {
        left = rest-held rest long after state s address ∙ file-served registers (palette_of rest) (bank_of rest) state asked after s served _ _ refl refl;
        fits = left-fits state s rest long;
        said = ap₂ told (code-served registers (palette_of rest) (bank_of rest) state asked after s served) (value-served registers (palette_of rest) (bank_of rest) state asked after s served value (value-held value e));
      }

-- the same of what a walk through the code has: the state that was read, and what is left by equations
pub accessed : (registers rest : List ℕ) → length rest ≡ rest_count → (st : State) → st ≡ state_in rest → (state_in rest).pointer.address < 256 → (asked : Record) (after : List ℕ) (s : Served)
    → Serves (seen registers st) asked after s → (value : ℕ)
    → value ≡ cond s.pixel (component (cond (in_bank (seen after st)) (colour_at rest (bank_at + 3 * (st.pointer.address % bank_count))) (colour_at rest (palette_at + 3 * st.pointer.address))) st.pointer.next) s.value
    → (rest' : List ℕ) → rest' ≡ rest_left st s rest → (number : ℕ) → number ≡ told s.code value → sound_in registers rest ≡ true → AccessLeft asked registers rest after rest' number
accessed registers rest long st e address asked after s served value v rest' l number n is-sound =
    accept asked registers rest after rest' number is-sound
    (subst₂ (λ (x : List ℕ) (k : ℕ). Accesses asked registers rest after x k) (sym (l ∙ ap (λ (x : State). rest_left x s rest) e)) (sym n)
    (accesses registers rest long address asked after s (subst (λ (x : State). Serves (seen registers x) asked after s) e served) value
    (v ∙ ap (λ (x : State). cond s.pixel (component (cond (in_bank (seen after x)) (colour_at rest (bank_at + 3 * (x.pointer.address % bank_count))) (colour_at rest (palette_at + 3 * x.pointer.address))) x.pointer.next) s.value) e)))

pub left_as : {a b : Record} {registers rest registers' rest' : List ℕ} {number : ℕ} → a ≡ b → AccessLeft a registers rest registers' rest' number → AccessLeft b registers rest registers' rest' number
left_as {registers = registers} {rest = rest} {registers' = registers'} {rest' = rest'} {number = number} e x = subst (λ (r : Record). AccessLeft r registers rest registers' rest' number) e x
