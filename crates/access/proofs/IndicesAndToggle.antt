-- 'An MMIO access moves no index register' and 'Only 3C0h writes and 3?Ah reads move the toggle', for every file and record.
-- Assumes nothing.
use Prim.Native.Nat.{ℕ, ◌≤◌, ◌/◌}
use mathlib.Core.Path.{◌≡◌, refl, sym, ap, subst, ◌∙◌}
use mathlib.Core.Bool.{false, not, ◌&&◌, ◌||◌}
use lib.Dec.{T, eqb, leb, le→leb, T_not}
use borrow.Author.Tests.{not-true}
use Rattle.bits.proofs.Test.{both, either, is_true, or_left, or_right}
use Rattle.file.specs.declared.effect.Effect.{Effect}
use Rattle.file.specs.declared.registers.File.{File}
use Rattle.file.specs.Effects.{reach_of}
use Rattle.file.specs.File.{register}
use Rattle.file.specs.Names.{SRX, ARX}
use Rattle.places.specs.Lookup.{of_toggle}
use Rattle.places.specs.Profile.{profile, stores_into, flips, resets}
use Rattle.places.proofs.RulesOfPlaces.{mmio_rule, mmio-rule, toggle_rule, toggle-rule}
use Rattle.access.specs.declared.record.Record.{Record}
use Rattle.access.specs.Access.{place_of, access, reach}
use Rattle.access.specs.Checks.{is_mmio}
use Rattle.access.proofs.Reach.{Spares, outside-reach, nothing-spares, read-spares, write-spares, spared, write-leaves-toggle, read-leaves-toggle}
use Rattle.access.proofs.Refusals.{by-effect}

-- an MMIO access leaves SRX, CRX, GRX and ARX
pub mmio-leaves-indices : (f : File) (r : Record) → T (is_mmio r) → (number : ℕ) → SRX ≤ number → number ≤ ARX
    → register (access f r).file number ≡ register f number
unfolding mmio_rule is_mmio place_of stores_into
mmio-leaves-indices f r m number low high =
    spared f r number
    (λ i. by-effect (Spares number i) f r (nothing-spares number i)
    (λ n w. write-spares number i f (profile (place_of f r)).writing r.value
    (λ n flip e same. absurd (other (same ∙ sym (ap stores_into e)))))
    (read-spares number i f (profile (place_of f r)).reading))
  where
    other : number ≡ stores_into (profile (place_of f r)).writing → ⊥
    other e =
        T_not (leb SRX (stores_into (profile (place_of f r)).writing) && leb (stores_into (profile (place_of f r)).writing) ARX)
        (either (not (eqb (r.kind / 2) 2)) (not (leb SRX (stores_into (profile (place_of f r)).writing) && leb (stores_into (profile (place_of f r)).writing) ARX))
        (mmio-rule f r.kind r.address) (λ t. T_not (eqb (r.kind / 2) 2) t m))
        (subst (λ (n : ℕ). T (leb SRX n && leb n ARX)) e
        (both (leb SRX number) (leb number ARX) (le→leb SRX number low) (le→leb number ARX high)))

-- every other access than a 3C0h write and a 3?Ah read leaves the toggle
pub others-leave-toggle : (f : File) (r : Record) → (T (of_toggle r.kind r.address) → ⊥) → (access f r).file.state.toggle ≡ f.state.toggle
unfolding toggle_rule reach reach_of place_of
others-leave-toggle f r other =
    (outside-reach f r).toggle
    (by-effect (λ (e : Effect). (reach_of e).toggle ≡ false) f r refl
    (λ n w. write-leaves-toggle f (profile (place_of f r)).writing r.value (or_left (flips (profile (place_of f r)).writing) _ still))
    (read-leaves-toggle f (profile (place_of f r)).reading (or_right (flips (profile (place_of f r)).writing) _ still)))
  where
    still : (flips (profile (place_of f r)).writing || resets (profile (place_of f r)).reading) ≡ false
    still =
        not-true _
        (is_true _ (either (of_toggle r.kind r.address) (not (flips (profile (place_of f r)).writing || resets (profile (place_of f r)).reading)) (toggle-rule f r.kind r.address) other))
