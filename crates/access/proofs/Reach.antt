-- No bit outside the reach of an access differs after it, and a register bit inside it is the value's. Assumes nothing.
use Prim.Native.Nat.{ℕ, ◌<◌}
use mathlib.Core.Path.{◌≡◌, refl, sym, ap, ◌∙◌, subst}
use mathlib.Core.Bool.{Bool, false}
use native.Mathlib.Omega.{arith}
use lib.Dec.{T, ltb→lt}
use lib.ListN.{length}
use Rattle.bits.specs.Store.{bit}
use Rattle.bits.proofs.Bit.{bit-of-zero, by_bits}
use Rattle.bits.proofs.Test.{right}
use Rattle.file.specs.declared.effect.Effect.{Effect}
use Rattle.file.specs.declared.effect.Effect.TheVariants.{Nothing, Store, Toggle, Move, Step, Paint, Pass}
use Rattle.file.specs.declared.registers.File.{File}
use Rattle.file.specs.Effects.{apply, reach_of}
use Rattle.file.specs.File.{register}
use Rattle.file.specs.Reached.{SameOutside}
use Rattle.file.specs.Registers.{register_count}
use Rattle.file.specs.Sound.{sound}
use Rattle.file.proofs.Reached.{same-outside, stored-inside}
use Rattle.file.proofs.Soundness.{sound-count}
use Rattle.places.specs.EngineCells.{reads_file, writes_file, in_file}
use Rattle.places.specs.Profile.{Reading, Writing, stores_to, profile, flips, resets}
use Rattle.places.proofs.RulesOfPlaces.{place-in-file}
use Rattle.access.specs.declared.record.Record.{Record}
use Rattle.access.specs.Access.{place_of, reach_in, write_effect, read_effect, effect, reach, access}
use Rattle.access.proofs.Refusals.{by_read, by-write, by-effect}

pub outside-reach : (f : File) (r : Record) → SameOutside (reach f r) f (access f r).file
unfolding reach access
outside-reach f r = same-outside (effect f r) f

-- ---- what an effect spares

-- an effect spares a bit of a register
abbrev pub Spares : ℕ → ℕ → Effect → Type 0
Spares number i e = number ≡ (reach_of e).register → bit i (reach_of e).bits ≡ 0

module _ (number i : ℕ) where
  pub nothing-spares : Spares number i Nothing
  unfolding reach_of
  nothing-spares e = bit-of-zero i

  -- a read stores into no register
  pub read-spares : (f : File) (reading : Reading) → Spares number i (read_effect f reading)
  unfolding reach_of
  read-spares f reading = by_read (Spares number i) f reading (λ h. bit-of-zero i) (λ h. bit-of-zero i) (λ e h. bit-of-zero i)

  -- a write to another register spares it
  pub write-spares : (f : File) (writing : Writing) (value : ℕ) → ((n : ℕ) (flip : Bool) → writing ≡ stores_to n flip → number ≡ n → bit i (reach_in f n) ≡ 0)
      → Spares number i (write_effect (reach_in f) f writing value)
  unfolding reach_of
  write-spares f writing value stored =
      by-write (Spares number i) (reach_in f) f writing value (λ h. bit-of-zero i) stored (λ reading h. bit-of-zero i) (λ h. bit-of-zero i)
      (λ h. bit-of-zero i) (λ e h. bit-of-zero i) (λ e h. bit-of-zero i)

-- the register after an access whose effect spares each of its bits
pub spared : (f : File) (r : Record) (number : ℕ) → ((i : ℕ) → Spares number i (effect f r)) → register (access f r).file number ≡ register f number
unfolding reach
spared f r number h =
    by_bits (register (access f r).file number) (register f number) (λ i. (outside-reach f r).registers number i (h i))

-- an access at a place that moves no toggle leaves it
pub write-leaves-toggle : (f : File) (writing : Writing) (value : ℕ) → flips writing ≡ false → (reach_of (write_effect (reach_in f) f writing value)).toggle ≡ false
unfolding reach_of flips
write-leaves-toggle f writing value h =
    by-write (λ (e : Effect). (reach_of e).toggle ≡ false) (reach_in f) f writing value refl
    (λ number flip e. sym (ap flips e) ∙ h) (λ reading. refl) refl refl (λ e. sym (ap flips e) ∙ h) (λ e. refl)

pub read-leaves-toggle : (f : File) (reading : Reading) → resets reading ≡ false → (reach_of (read_effect f reading)).toggle ≡ false
unfolding reach_of resets
read-leaves-toggle f reading h = by_read (λ (e : Effect). (reach_of e).toggle ≡ false) f reading refl refl (λ e. sym (ap resets e) ∙ h)

-- ---- inside the reach

module _ (f : File) (value i : ℕ) where
  -- an effect's bits are the value's, inside its reach
  abbrev Lands : Effect → Type 0
  Lands e = bit i (reach_of e).bits ≡ 1 → bit i (register (apply e f) (reach_of e).register) ≡ bit i value

  none : (e : Effect) → (reach_of e).bits ≡ 0 → Lands e
  none e z h = absurd (let no : ⊥ = omega (arith, sym h ∙ ap (bit i) z ∙ bit-of-zero i) in no)

  module _ (count : length f.registers ≡ register_count) where
    stored : (number reached : ℕ) (flips : Bool) → number < register_count → Lands (Store flips number reached value)
    unfolding apply reach_of register
    stored number reached flips l h = stored-inside f number reached value i (subst (λ (n : ℕ). number < n) (sym count) l) h

    written : (writing : Writing) → T (writes_file writing) → Lands (write_effect (reach_in f) f writing value)
    unfolding reach_of writes_file
    written writing t =
        by-write Lands (reach_in f) f writing value (none Nothing refl)
        (λ number flip e. stored number (reach_in f number) flip (ltb→lt number register_count (subst (λ (w : Writing). T (writes_file w)) e t)))
        (λ reading. none (Move _) refl) (none (Step _ _) refl) (none (Paint _ _ _ _ _) refl) (λ e. none (Toggle _) refl) (λ e. none (Pass _) refl)

  read : (reading : Reading) → (reach_of (read_effect f reading)).bits ≡ 0
  unfolding reach_of
  read reading = by_read (λ (e : Effect). (reach_of e).bits ≡ 0) f reading refl refl (λ e. refl)

-- with `outside-reach`: what an access to a sound file does to its registers, bit by bit
pub inside-reach : (f : File) (r : Record) → T (sound f) → (i : ℕ) → bit i (reach f r).bits ≡ 1
    → bit i (register (access f r).file (reach f r).register) ≡ bit i r.value
unfolding reach access reach_of place_of in_file
inside-reach f r s i =
    by-effect (Lands f r.value i) f r (none f r.value i Nothing refl)
    (λ n w. written f r.value i (sound-count f s) (profile (place_of f r)).writing
    (right (reads_file (profile (place_of f r)).reading) (writes_file (profile (place_of f r)).writing) (place-in-file f r.kind r.address)))
    (none f r.value i (read_effect f (profile (place_of f r)).reading) (read f r.value i (profile (place_of f r)).reading))
