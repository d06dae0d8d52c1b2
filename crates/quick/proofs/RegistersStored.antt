-- Registers stored where they stand. Assumes nothing.
use Prim.Native.Nat.{ℕ, ◌<◌, ◌≤◌}
use mathlib.Core.Path.{◌≡◌, refl, sym, ap, ◌∙◌}
use mathlib.Core.Bool.{Bool, true, false, cond, not}
use mathlib.Core.List.{List}
use native.Mathlib.Omega.{arith}
use borrow.Author.Tests.{lt-ltb, le-ltb, lt-leb, ne_eqb}
use lib.ListN.{get_or, set}
use lib.Seq.{get_or-set_other}
use Rattle.bits.specs.Store.{store}
use Rattle.bits.proofs.Test.{by-test, and-false}
use Rattle.file.specs.declared.answer.Answer.TheVariants.{Done, Locked, NoRegister}
use Rattle.file.specs.declared.effect.Effect.TheVariants.{Nothing, Store, Toggle}
use Rattle.file.specs.declared.registers.File.{File}
use Rattle.file.specs.declared.state.State.{State}
use Rattle.file.specs.Answers.{code_of, refused}
use Rattle.file.specs.Effects.{apply}
use Rattle.file.specs.File.{seen, register, crtc_locked}
use Rattle.file.specs.Names.{MISC, ARX, PCI04, CR0, CR6, CR7}
use Rattle.file.specs.Registers.{register_count}
use Rattle.file.specs.State.{unasked}
use Rattle.places.specs.EngineCells.{taken, attribute_place}
use Rattle.places.specs.Profile.{stores_to, profile}
use Rattle.access.specs.declared.engine.Decision.{Decision}
use Rattle.access.specs.Access.{locked_out, write_answer, write_effect}
use Rattle.access.specs.Engine.{reach_by, decided_write}
use Rattle.quick.specs.Classes.{codes_of}
use Rattle.quick.specs.Painting.{paints}
use Rattle.quick.specs.Said.{Told}
use Rattle.quick.specs.Smalls.{smalls_of}
use Rattle.quick.specs.Turned.{Stored, Turned, Coded}
use Rattle.quick.proofs.Parts.{made}

-- ---- the lock shuts CR0 to CR6, and of CR7 all bits but one

pub above-lock : (f : File) (number : ℕ) → CR6 < number → locked_out f number ≡ false
unfolding locked_out
above-lock f number h = rw (lt-leb number CR6 h, and-false, and-false)

pub below-lock : (f : File) (number : ℕ) → number < CR0 → locked_out f number ≡ false
unfolding locked_out
below-lock f number h = rw (lt-leb CR0 number h, and-false)

pub other-reach : (stored : List ℕ) (f : File) (number : ℕ) → (number ≡ CR7 → ⊥) → reach_by stored f number ≡ get_or stored number 0
unfolding reach_by
other-reach stored f number h = rw (ne_eqb number CR7 h, and-false)

-- a register that is stored by the table
pub table-stored : (stored before : List ℕ) (number value : ℕ) (after : List ℕ) (said : ℕ)
    → locked_out (seen before unasked) number ≡ false → reach_by stored (seen before unasked) number ≡ get_or stored number 0
    → Told (Done 0) said → after ≡ set before number (store (get_or stored number 0) (get_or before number 0) value)
    → Stored stored before number value after said
table-stored stored before number value after said free reach t left = record { told = rw free t; left = rw (free, reach) left }

-- ---- what the checks go by: PCI04 and MISC

pub other-codes : (registers : List ℕ) (number value : ℕ) → (PCI04 ≡ number → ⊥) → (MISC ≡ number → ⊥) → codes_of (set registers number value) ≡ codes_of registers
unfolding codes_of
other-codes registers number value p m =
    rw (get_or-set_other registers number PCI04 value 0 p, get_or-set_other registers number MISC value 0 m)

pub coded-other : (registers : List ℕ) (number value : ℕ) (after : List ℕ) → (PCI04 ≡ number → ⊥) → (MISC ≡ number → ⊥) → after ≡ set registers number value
    → (codes : List ℕ) → Coded registers codes after codes
unfolding Coded
coded-other registers number value after p m left codes same = same ∙ sym (ap codes_of left ∙ other-codes registers number value p m)

-- a register's write that is no write of these leaves the codes
pub stored-coded : (stored registers : List ℕ) (number value : ℕ) (after : List ℕ) (said : ℕ) → Stored stored registers number value after said
    → (PCI04 ≡ number → ⊥) → (MISC ≡ number → ⊥) → (codes : List ℕ) → Coded registers codes after codes
unfolding Coded
stored-coded stored registers number value after said s p m codes same =
    by-test (locked_out (seen registers unasked) number)
    (λ e. same ∙ sym (ap codes_of (rw e at s.left)))
    (λ e. coded-other registers number _ after p m (rw e at s.left) codes same)

-- ---- a register's write

pub storing : (stored : List ℕ) (f : File) (number value : ℕ) (after smalls : List ℕ) (said : ℕ) → Stored stored f.registers number value after said
    → smalls ≡ smalls_of f.state → Turned (decided_write stored f (stores_to number false) value) f after smalls said
unfolding decided_write write_answer write_effect taken locked_out crtc_locked reach_by refused code_of seen register apply paints
storing stored f number value after smalls said s same =
    by-test (locked_out f number)
    (λ e. made Locked Nothing f (decided_write stored f (stores_to number false) value) said after smalls (rw e) (rw e at s.told) refl (rw e at s.left) same refl)
    (λ e. made (Done 0) (Store false number (reach_by stored f number) value) f (decided_write stored f (stores_to number false) value) said after smalls (rw e) (rw e at s.told) refl (rw e at s.left) same refl)

-- ---- a write of 3C0h

pub is-off : (b : Bool) → (◌≡◌ {A = ℕ} (cond b 1 0) 1 → ⊥) → b ≡ false
is-off true h = absurd (h refl)
is-off false h = refl

pub is-on : (b : Bool) → ◌≡◌ {A = ℕ} (cond b 1 0) 1 → b ≡ true
is-on true h = refl
is-on false h = absurd (let never : ⊥ = omega (arith, h) in never)

module _ (stored registers : List ℕ) (s : State) (value cell : ℕ) where
  abbrev Due : Decision
  Due = decided_write stored (seen registers s) (profile (attribute_place s.toggle cell)).writing value

  abbrev Seen : File
  Seen = seen registers s

  -- a register stored, and the toggle flipped
  flips : (number : ℕ) (after smalls : List ℕ) (said : ℕ) → Due ≡ record { answer = Done 0; effect = Store true number (get_or stored number 0) value; pixel = false }
      → Told (Done 0) said → after ≡ set registers number (store (get_or stored number 0) (get_or registers number 0) value)
      → smalls ≡ set (smalls_of s) 6 (cond (not s.toggle) 1 0) → Turned Due Seen after smalls said
  unfolding apply seen register smalls_of paints
  flips number after smalls said same t left toggled =
      made (Done 0) (Store true number (get_or stored number 0) value) Seen Due said after smalls same t refl left toggled refl

  index-due : s.toggle ≡ false → Due ≡ record { answer = Done 0; effect = Store true ARX (get_or stored ARX 0) value; pixel = false }
  unfolding attribute_place profile decided_write write_answer write_effect taken refused code_of
  index-due off =
      ap (λ (b : Bool). decided_write stored Seen (profile (attribute_place b cell)).writing value) off
      ∙ rw (below-lock Seen ARX (omega arith), other-reach stored Seen ARX (λ n. absurd (let never : ⊥ = omega (arith, n) in never)))

  pub index-written : (after smalls : List ℕ) (said : ℕ) → s.toggle ≡ false → Told (Done 0) said
      → after ≡ set registers ARX (store (get_or stored ARX 0) (get_or registers ARX 0) value)
      → smalls ≡ set (smalls_of s) 6 1 → Turned Due Seen after smalls said
  index-written after smalls said off t left toggled =
      flips ARX after smalls said (index-due off) t left (toggled ∙ ap (λ (b : Bool). set (smalls_of s) 6 (cond (not b) 1 0)) (sym off))

  module _ (free : CR7 < cell) (on : s.toggle ≡ true) where
    data-due : cell < register_count → Due ≡ record { answer = Done 0; effect = Store true cell (get_or stored cell 0) value; pixel = false }
    unfolding attribute_place profile decided_write write_answer write_effect taken refused code_of
    data-due h =
        ap (λ (b : Bool). decided_write stored Seen (profile (attribute_place b cell)).writing value) on
        ∙ rw (lt-ltb cell register_count h, above-lock Seen cell (omega (arith, free)), other-reach stored Seen cell (λ n. absurd (let never : ⊥ = omega (arith, n, free) in never)))

    pub data-written : (after smalls : List ℕ) (said : ℕ) → cell < register_count → Told (Done 0) said
        → after ≡ set registers cell (store (get_or stored cell 0) (get_or registers cell 0) value)
        → smalls ≡ set (smalls_of s) 6 0 → Turned Due Seen after smalls said
    data-written after smalls said h t left toggled =
        flips cell after smalls said (data-due h) t left (toggled ∙ ap (λ (b : Bool). set (smalls_of s) 6 (cond (not b) 1 0)) (sym on))

    none-due : register_count ≤ cell → Due ≡ record { answer = NoRegister; effect = Toggle (not s.toggle); pixel = false }
    unfolding attribute_place profile decided_write write_answer write_effect taken refused code_of seen
    none-due h = ap (λ (b : Bool). decided_write stored Seen (profile (attribute_place b cell)).writing value) on ∙ rw (le-ltb cell register_count h)

    pub none_written : (smalls : List ℕ) (said : ℕ) → register_count ≤ cell → Told NoRegister said
        → smalls ≡ set (smalls_of s) 6 0 → Turned Due Seen registers smalls said
    unfolding apply seen smalls_of paints
    none_written smalls said h t toggled =
        made NoRegister (Toggle (not s.toggle)) Seen Due said registers smalls (none-due h) t refl refl
        (toggled ∙ ap (λ (b : Bool). set (smalls_of s) 6 (cond (not b) 1 0)) (sym on)) refl
