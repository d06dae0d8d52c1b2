-- The reader's and the writer's definitions, by what the code's tests found. Assumes nothing.
use Prim.Native.Nat.{ℕ, ◌%◌}
use mathlib.Core.Path.{◌≡◌, ap, ◌∙◌, fun_ext}
use mathlib.Core.Bool.{true, false}
use mathlib.Core.List.{List, []}
use native.Mathlib.Nat.{mod-eq_of_lt}
use borrow.Author.Tests.{eq-eqb, ne_eqb}
use lib.ListN.{length, get_or}
use Rattle.bits.specs.Numbers.{read_numbers, all_in_range, write_numbers}
use Rattle.file.specs.declared.answer.Answer.TheVariants.{Done, Locked, OutOfRange, NotSound}
use Rattle.file.specs.Answers.{refused, code_of}
use Rattle.timing.specs.Layout.{answer_by, registers_after}
use Rattle.portable.specs.declared.Timing.{Timing}
use Rattle.portable.specs.Table.{table}
use Rattle.portable.specs.Timing.{timing_by, timing_of, numbers_of, readable, locked, read_timing, timing_answer, bytes_after, Written}
use Rattle.portable.proofs.Computed.{numbers-below}

-- the numbers that are read have 16 bits
whole : (bytes : List ℕ) → timing_by (λ (k : ℕ). get_or (read_numbers table bytes) k 0 % 65536) ≡ timing_of (read_numbers table bytes)
unfolding timing_of
whole bytes = ap timing_by (fun_ext (λ k. mod-eq_of_lt (numbers-below bytes k)))

pub read_short : (bytes : List ℕ) (t : Timing) → (length bytes ≡ 28 → ⊥) → t ≡ timing_of []
    → record { answer = NotSound; timing = t } ≡ read_timing bytes
unfolding read_timing readable
read_short bytes t n e = rw (ne_eqb (length bytes) 28 n, e)

pub read_done : (bytes numbers : List ℕ) (t : Timing) → length bytes ≡ 28 → numbers ≡ read_numbers table bytes
    → t ≡ timing_by (λ (k : ℕ). get_or numbers k 0 % 65536) → record { answer = Done 0; timing = t } ≡ read_timing bytes
unfolding read_timing readable
read_done bytes numbers t n e m =
    rw (eq-eqb (length bytes) 28 n)
    (ap (λ (x : Timing). record { answer = Done 0; timing = x })
    (m ∙ ap (λ (l : List ℕ). timing_by (λ (k : ℕ). get_or l k 0 % 65536)) e ∙ whole bytes))

-- a refusal leaves the bytes, and code 0 writes them
module _ (bytes : List ℕ) (t : Timing) where
  pub write-short : (length bytes ≡ 28 → ⊥) → Written bytes t NotSound bytes
  unfolding timing_answer bytes_after answer_by registers_after readable refused code_of
  write-short n =
      let r : readable bytes ≡ false = ne_eqb (length bytes) 28 n in record { answered = rw r; bytes = rw r }

  pub write-locked : length bytes ≡ 28 → locked bytes ≡ true → Written bytes t Locked bytes
  unfolding timing_answer bytes_after answer_by registers_after readable refused code_of
  write-locked n l =
      let r : readable bytes ≡ true = eq-eqb (length bytes) 28 n in record { answered = rw (r, l); bytes = rw (r, l) }

  pub write-outside : length bytes ≡ 28 → locked bytes ≡ false → all_in_range table (numbers_of t) ≡ false → Written bytes t OutOfRange bytes
  unfolding timing_answer bytes_after answer_by registers_after readable refused code_of
  write-outside n l o =
      let r : readable bytes ≡ true = eq-eqb (length bytes) 28 n in record { answered = rw (r, l, o); bytes = rw (r, l, o) }

  pub write_done : (after : List ℕ) → length bytes ≡ 28 → locked bytes ≡ false → all_in_range table (numbers_of t) ≡ true
      → after ≡ write_numbers table (numbers_of t) bytes → Written bytes t (Done 0) after
  unfolding timing_answer bytes_after answer_by registers_after readable refused code_of
  write_done after n l o e =
      let r : readable bytes ≡ true = eq-eqb (length bytes) 28 n in record { answered = rw (r, l, o); bytes = rw (r, l, o) e }
