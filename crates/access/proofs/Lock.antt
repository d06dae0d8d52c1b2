-- The lock, for every file and record: while CR11[7] is 1 no access moves a bit of CR0 to CR7 but CR7[4], and a CR7 write still moves that one.
-- Assumes nothing.
use Prim.Native.Nat.{ℕ, zero, suc, ◌≤◌, ◌<◌, ◌/◌}
use mathlib.Core.Path.{◌≡◌, refl, sym, ap, ◌∙◌, subst}
use mathlib.Core.Bool.{Bool, true, false, cond, true≢false}
use native.Mathlib.Omega.{arith}
use borrow.Author.Tests.{leb-true, leb-false, le-leb, lt-leb}
use lib.Dec.{T, leb, lit<}
use Rattle.bits.specs.Store.{bit}
use Rattle.bits.proofs.Bit.{bit-suc, bit-of-zero}
use Rattle.bits.proofs.Test.{by-test, is_true}
use Rattle.file.specs.declared.answer.Answer.TheVariants.{Done, Locked}
use Rattle.file.specs.declared.effect.Effect.TheVariants.{Store}
use Rattle.file.specs.declared.registers.File.{File}
use Rattle.file.specs.Answers.{code_of, refused}
use Rattle.file.specs.File.{register, crtc_locked}
use Rattle.file.specs.Names.{PCI04, CR0, CR6, CR7}
use Rattle.file.specs.Sound.{sound}
use Rattle.places.specs.Lookup.{is_one_of, selects, matches, first, row_at, place_of_row, place_at}
use Rattle.places.specs.Places.{places}
use Rattle.places.specs.Profile.{Writing, stores_to, profile}
use Rattle.access.specs.declared.record.Record.{Record}
use Rattle.access.specs.Access.{place_of, locked_out, locked_reach, reach_in, write_answer, answer_at, effect_at, answer, effect, reach, access}
use Rattle.access.specs.Checks.{is_write, is_port, is_mmio, checks, first_refusal, not_sound, malformed, space_off, not_held, no_row, other_direction, inside_wider, of_other_half, wrong_width, other_width, bad_access, is_passing, carries}
use Rattle.access.specs.Promises.{seventh}
use Rattle.access.proofs.Codes.{place-answers}
use Rattle.access.proofs.Reach.{Spares, outside-reach, nothing-spares, read-spares, write-spares}
use Rattle.access.proofs.Refusals.{by-effect}

-- a number of five bits has no sixth
beyond : (i n : ℕ) → n < 32 → bit (suc (suc (suc (suc (suc i))))) n ≡ 0
beyond i n h =
    bit-suc (suc (suc (suc (suc i)))) n
    ∙ bit-suc (suc (suc (suc i))) (n / 2)
    ∙ bit-suc (suc (suc i)) (n / 2 / 2)
    ∙ bit-suc (suc i) (n / 2 / 2 / 2)
    ∙ bit-suc i (n / 2 / 2 / 2 / 2)
    ∙ ap (bit i) (omega arith)
    ∙ bit-of-zero i

-- under the lock a CR7 write reaches no bit but 4
fourth-alone : (i : ℕ) → (i ≡ 4 → ⊥) → bit i locked_reach ≡ 0
unfolding bit locked_reach
fourth-alone zero h = refl
fourth-alone (suc zero) h = refl
fourth-alone (suc (suc zero)) h = refl
fourth-alone (suc (suc (suc zero))) h = refl
fourth-alone (suc (suc (suc (suc zero)))) h = absurd (h refl)
fourth-alone (suc (suc (suc (suc (suc i))))) h = beyond i locked_reach (lit< tt)

module _ (f : File) (lock : crtc_locked f ≡ true) (number i : ℕ) (low : CR0 ≤ number) (high : number ≤ CR7) (other : number ≡ CR7 → i ≡ 4 → ⊥) where
  locked-out : number ≤ CR6 → locked_out f number ≡ true
  unfolding locked_out
  locked-out h = rw (lock, le-leb CR0 number low, le-leb number CR6 h)

  -- a write that is not refused reaches none of the bits
  register-spares : refused (cond (locked_out f number) Locked (Done 0)) ≡ false → bit i (reach_in f number) ≡ 0
  unfolding refused code_of reach_in
  register-spares n =
      by-test (leb number CR6)
      (λ e. absurd (true≢false (rw (locked-out (leb-true number CR6 e)) at n)))
      (λ e.
      let seven : number ≡ CR7 = omega (arith, leb-false number CR6 e) in
      rw (seven, lock) (fourth-alone i (other seven)))

  -- a store that the answer to its writing lets through spares them
  store-spares : (writing : Writing) → refused (write_answer f writing) ≡ false → (n : ℕ) (flip : Bool) → writing ≡ stores_to n flip → number ≡ n
      → bit i (reach_in f n) ≡ 0
  unfolding write_answer
  store-spares writing n m flip e same =
      subst (λ (k : ℕ). bit i (reach_in f k) ≡ 0) same
      (register-spares (subst (λ (k : ℕ). refused (cond (locked_out f k) Locked (Done 0)) ≡ false) (sym same) (sym (ap (λ (w : Writing). refused (write_answer f w)) e) ∙ n)))

  -- the lock holds
  pub lock-holds : (r : Record) → bit i (register (access f r).file number) ≡ bit i (register f number)
  unfolding reach answer_at
  lock-holds r =
      (outside-reach f r).registers number i
      (by-effect (Spares number i) f r (nothing-spares number i)
      (λ n w. write-spares number i f (profile (place_of f r)).writing r.value
      (store-spares (profile (place_of f r)).writing
      (subst (λ (b : Bool). refused (answer_at b f (place_of f r)) ≡ false) w (sym (ap refused (place-answers f r n)) ∙ n))))
      (read-spares number i f (profile (place_of f r)).reading))

module _ (f : File) (value : ℕ) (s : T (sound f)) (on : bit 1 (register f PCI04) ≡ 1) (byte : value < 256) (lock : crtc_locked f ≡ true) where
  -- the lock does not refuse it
  pub seventh-accepted : answer f (seventh value) ≡ Done 0
  unfolding answer checks first_refusal not_sound malformed bad_access is_passing carries space_off not_held other_direction inside_wider of_other_half wrong_width is_write is_port is_mmio is_one_of no_row other_width answer_at locked_out place_of place_at row_at place_of_row first matches selects places
  seventh-accepted = simp (is_true (sound f) s, lt-leb 256 value byte, on, lock)

  -- and it stores bit 4 alone
  pub seventh-stores : effect f (seventh value) ≡ Store false CR7 0x10 value
  unfolding effect effect_at refused code_of is_write is_passing carries reach_in locked_reach place_of place_at row_at place_of_row first matches selects places
  seventh-stores = simp (seventh-accepted, lock)
