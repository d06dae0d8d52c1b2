-- Demand 2, timing, about the definitions: when a timing is accepted, what it reads back as, and what it leaves.
-- Assumes nothing.
use Prim.Native.Nat.{ℕ, zero, suc}
use mathlib.Core.Path.{◌≡◌, refl, sym, ap, ap₂, ◌∙◌, subst}
use mathlib.Core.Bool.{Bool, true, false, cond, ◌||◌}
use mathlib.Core.List.{List, [], ◌∷◌}
use mathlib.Core.Logic.{◌↔◌}
use native.Mathlib.Omega.{arith}
use lib.Bits.{bit_and}
use lib.Dec.{T, eqb}
use lib.ListN.{get_or}
use Rattle.bits.specs.Numbers.{Number, read_from, read_numbers, all_in_range, write_numbers}
use Rattle.bits.specs.Reach.{table_reach}
use Rattle.bits.specs.Store.{bit}
use Rattle.bits.proofs.Bit.{by_bits, bit-of-zero}
use Rattle.bits.proofs.Split.{apart}
use Rattle.bits.proofs.Test.{left, right, is_true}
use Rattle.file.specs.declared.answer.Answer.{Answer}
use Rattle.file.specs.declared.answer.Answer.TheVariants.{Done}
use Rattle.file.specs.declared.registers.File.{File}
use Rattle.file.specs.Answers.{refused}
use Rattle.file.specs.File.{register, with_registers, crtc_locked}
use Rattle.file.specs.Names.{CR1A, CR1B}
use Rattle.file.specs.Registers.{stored_table}
use Rattle.file.specs.Sound.{all_within, sound}
use Rattle.file.proofs.Soundness.{registers-sound, state-sound, sound-by, sound-count}
use Rattle.timing.specs.declared.Timing.{Timing}
use Rattle.timing.specs.Layout.{Layout, Lawful, layout, answer_by, registers_after, Accepted}
use Rattle.timing.specs.Promises.{Passes, Free, free, no_bits, unused, SameOutsideTable}
use Rattle.timing.specs.Table.{table, wide}
use Rattle.timing.specs.Timing.{timing_of, numbers_of, timing_in, read_timing, with_timing, timing_answer, written_file, write_timing}
use Rattle.timing.proofs.Computed.{layout-lawful, table-unused, narrow-reach, wide-reach}
use Rattle.timing.proofs.Layouts.{accepted-by, others-kept, reads-back-by, read-accepted-by, writes-back-by, written-within, within-kept}

abbrev layout_of : File → Layout
layout_of f = layout f.state.chip (wide f)

lawful : (f : File) → Lawful (layout_of f)
lawful f = layout-lawful f.state.chip (wide f)

-- accepted if and only if the file is sound and unlocked and every number is in its range
pub accepted : (f : File) (t : Timing) → (timing_answer f t ≡ Done 0) ↔ Passes f t
unfolding timing_answer answer_by
accepted f t = (
  λ e. let a = by_layout.0 e in record { is-sound = a.is-readable; unlocked = a.unlocked; ranged = a.ranged },
  λ p. by_layout.1 (record { is-readable = p.is-sound; unlocked = p.unlocked; ranged = p.ranged }),
)
  where
    by_layout : (timing_answer f t ≡ Done 0) ↔ Accepted (layout_of f) (sound f) (crtc_locked f) (numbers_of t)
    by_layout = accepted-by (layout_of f) (sound f) (crtc_locked f) (numbers_of t)

-- in a sound and unlocked file the ranges alone decide
pub accepted-by-range : (f : File) (t : Timing) → T (sound f) → crtc_locked f ≡ false
    → (timing_answer f t ≡ Done 0) ↔ T (all_in_range (table (wide f)) (numbers_of t))
accepted-by-range f t s u =
    (λ e. ((accepted f t).0 e).ranged, λ r. (accepted f t).1 (record { is-sound = s; unlocked = u; ranged = r }))

-- what the writer hands back is the file with the registers that its layout tells
written-registers : (f : File) (t : Timing)
    → (write_timing f t).file ≡ with_registers (registers_after (layout_of f) (timing_answer f t) (numbers_of t) f.registers) f
unfolding write_timing written_file with_timing with_registers registers_after
written-registers f t = by-refusal (refused (timing_answer f t))
  where
    by-refusal : (b : Bool)
        → cond b f (with_timing t f) ≡ with_registers (cond b f.registers (write_numbers (table (wide f)) (numbers_of t) f.registers)) f
    by-refusal true = refl
    by-refusal false = refl

-- no other bit of the whole file moves, whatever the writer answers
pub same-outside : (f : File) (t : Timing) → SameOutsideTable f (write_timing f t).file
unfolding with_registers register
same-outside f t =
    subst (SameOutsideTable f) (sym (written-registers f t))
    (record {
      registers = λ r i e. others-kept (layout_of f) (timing_answer f t) (numbers_of t) f.registers r i e;
      palette = refl;
      bank = refl;
      state = refl;
    })

-- a bit that no number has is outside the table's reach
unused-bit : (table : List Number) (xs : List Free) (k i : ℕ) → T (unused table xs) → bit i (get_or xs k no_bits).bits ≡ 1
    → bit i (table_reach table (get_or xs k no_bits).register) ≡ 0
unfolding unused no_bits
unused-bit table [] k i t e = absurd (let z : ◌≡◌ {A = ℕ} 0 1 = sym (bit-of-zero i) ∙ e in omega arith)
unused-bit table (x ∷ xs) zero i t e =
    apart x.bits (table_reach table x.register) i (left (eqb (bit_and x.bits (table_reach table x.register)) 0) (unused table xs) t) e
unused-bit table (x ∷ xs) (suc k) i t e =
    unused-bit table xs k i (right (eqb (bit_and x.bits (table_reach table x.register)) 0) (unused table xs) t) e

-- CR1A[3:0], CR1B[7:5] and [1], CR3[7:5], CR5[6:5], CR9[7] and [4:0], CR11[7:4] never move: each bit of the list `free`
pub free-kept : (f : File) (t : Timing) (k i : ℕ) → bit i (get_or free k no_bits).bits ≡ 1
    → bit i (register (write_timing f t).file (get_or free k no_bits).register) ≡ bit i (register f (get_or free k no_bits).register)
free-kept f t k i e =
    (same-outside f t).registers (get_or free k no_bits).register i (unused-bit (table (wide f)) free k i (table-unused (wide f)) e)

-- 02, 7/13: static sync, CR1A[3] and CR1A[2], which stops the palette, is among them: a timing write never moves it
pub sync-kept : (f : File) (t : Timing)
    → (bit 3 (register (write_timing f t).file CR1A) ≡ bit 3 (register f CR1A))
    × (bit 2 (register (write_timing f t).file CR1A) ≡ bit 2 (register f CR1A))
unfolding free bit
sync-kept f t = (free-kept f t 0 3 refl, free-kept f t 0 2 refl)

-- a narrow file keeps CR1A whole
pub narrow-kept : (f : File) (t : Timing) → wide f ≡ false → register (write_timing f t).file CR1A ≡ register f CR1A
narrow-kept f t n =
    by_bits (register (write_timing f t).file CR1A) (register f CR1A)
    (λ i. (same-outside f t).registers CR1A i
    (ap (λ (w : Bool). bit i (table_reach (table w) CR1A)) n ∙ ap (bit i) narrow-reach ∙ bit-of-zero i))

-- CR1B[5] and CR1B[7] never change
pub wide-bits-kept : (f : File) (t : Timing) (i : ℕ) → bit i 0x1D ≡ 0 → bit i (register (write_timing f t).file CR1B) ≡ bit i (register f CR1B)
wide-bits-kept f t i e = (same-outside f t).registers CR1B i (ap (bit i) (wide-reach (wide f)) ∙ e)

-- so a file stays wide or narrow
pub wide-kept : (f : File) (t : Timing) → wide (write_timing f t).file ≡ wide f
unfolding wide bit
wide-kept f t =
    ap₂ (λ (x y : ℕ). eqb x 1 || eqb y 1) (wide-bits-kept f t 5 refl) (wide-bits-kept f t 7 refl)

-- a sound file is sound with other registers that are within their bits
sound-with : (f : File) (registers : List ℕ) → T (sound f) → T (all_within (stored_table f.state.chip) registers)
    → T (sound (with_registers registers f))
unfolding with_registers
sound-with f registers s w = sound-by (with_registers registers f) w (state-sound f s)

-- so it is with a timing's numbers in their pieces
pub with-sound : (t : Timing) (f : File) → T (sound f) → T (sound (with_timing t f))
unfolding with_timing
with-sound t f s =
    sound-with f _ s (written-within (stored_table f.state.chip) (table (wide f)) (numbers_of t) f.registers (lawful f).stores (registers-sound f s))

-- a timing write keeps soundness
pub timing-sound : (f : File) (t : Timing) → T (sound f) → T (sound (write_timing f t).file)
timing-sound f t s =
    subst (λ (g : File). T (sound g)) (sym (written-registers f t))
    (sound-with f _ s (within-kept (layout_of f) (lawful f) (timing_answer f t) (numbers_of t) f.registers (registers-sound f s)))

-- an accepted timing's numbers stand in the file
timing-in : (f : File) (t : Timing) → timing_answer f t ≡ Done 0 → timing_in (write_timing f t).file ≡ t
unfolding timing_in with_registers timing_of numbers_of timing_answer answer_by stored_table
timing-in f t a =
    ap (λ (w : Bool). timing_of (read_numbers (table w) (write_timing f t).file.registers)) (wide-kept f t)
    ∙ ap (λ (g : File). timing_of (read_numbers (table (wide f)) g.registers)) (written-registers f t)
    ∙ ap timing_of
    (reads-back-by (layout_of f) (lawful f) (sound f) (crtc_locked f) (numbers_of t) f.registers
    (sound-count f ((accepted f t).0 a).is-sound) a)

-- an accepted timing reads back the same fifteen numbers
pub reads-back : (f : File) (t : Timing) → timing_answer f t ≡ Done 0
    → read_timing (write_timing f t).file ≡ record { answer = Done 0; timing = t }
unfolding read_timing
reads-back f t a =
    rw (is_true (sound (write_timing f t).file) (timing-sound f t ((accepted f t).0 a).is-sound), timing-in f t a)

-- a timing keeps the numbers that were read
pub numbers-kept : (w : Bool) (registers : List ℕ) → numbers_of (timing_of (read_numbers (table w) registers)) ≡ read_numbers (table w) registers
unfolding numbers_of timing_of read_numbers read_from table
numbers-kept true registers = refl
numbers-kept false registers = refl

-- what is read from a file is accepted by it
read-accepted : (f : File) → T (sound f) → crtc_locked f ≡ false → timing_answer f (timing_in f) ≡ Done 0
unfolding timing_in timing_answer answer_by
read-accepted f s u =
    ap (answer_by (layout_of f) (sound f) (crtc_locked f)) (numbers-kept (wide f) f.registers)
    ∙ read-accepted-by (layout_of f) (lawful f) (sound f) (crtc_locked f) f.registers s u

-- and changes nothing
read-written : (f : File) → (write_timing f (timing_in f)).file ≡ f
unfolding timing_in with_registers
read-written f =
    written-registers f (timing_in f)
    ∙ ap (λ (rs : List ℕ). with_registers rs f)
    (ap (λ (ns : List ℕ). registers_after (layout_of f) (timing_answer f (timing_in f)) ns f.registers) (numbers-kept (wide f) f.registers)
    ∙ writes-back-by (layout_of f) (timing_answer f (timing_in f)) f.registers)

-- writing back what was read from a sound and unlocked file is accepted and changes nothing
pub writes-back : (f : File) → T (sound f) → crtc_locked f ≡ false
    → write_timing f (read_timing f).timing ≡ record { answer = Done 0; file = f }
unfolding read_timing write_timing
writes-back f s u =
    rw (is_true (sound f) s)
    (ap₂ (λ (a : Answer) (g : File). record { answer = a; file = g }) (read-accepted f s u) (read-written f))
