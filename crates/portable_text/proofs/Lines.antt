-- The line of lent bytes: by the code that the reader answers, and how long it is. Assumes nothing.
use Prim.Native.Nat.{ℕ, zero, suc, ◌*◌, ◌≤◌, ◌<◌}
use mathlib.Core.Bool.{true, false}
use mathlib.Core.List.{List, [], ◌∷◌}
use mathlib.Core.Path.{◌≡◌, refl, sym, ap, ap₂, ◌∙◌, subst}
use native.Mathlib.Omega.{arith}
use lib.ListN.{get_or, length, length-append, replicate}
use Rattle.bits.specs.Numbers.{read_numbers}
use Rattle.bits.proofs.Test.{by-test}
use Rattle.file.specs.declared.answer.Answer.TheVariants.{Done}
use Rattle.file.specs.Answers.{code_of}
use Rattle.portable.specs.declared.Read.{Read}
use Rattle.portable.specs.declared.Timing.{Timing}
use Rattle.portable.specs.Table.{table}
use Rattle.portable.specs.Timing.{numbers_of, readable, read_timing, timing_of}
use Rattle.portable.proofs.Computed.{numbers-below}
use Rattle.portable.proofs.Writer.{numbers-kept}
use Rattle.text.specs.Text.{decimal, decimal_places, numbers_line, spaced}
use Rattle.text.proofs.Places.{most-places}
use Rattle.text.proofs.Spaced.{numbers-length, plain-length}
use Rattle.portable_text.specs.Line.{line_of, line_most}

-- the reader answers 0 or 12
refused-code : (bytes : List ℕ) → ((x : ℕ) → (read_timing bytes).answer ≡ Done x → ⊥) → code_of (read_timing bytes).answer ≡ 12
unfolding read_timing code_of
refused-code bytes n = by-test (readable bytes) (λ e. absurd (n 0 (rw e refl))) (λ e. rw e refl)

module _ (bytes : List ℕ) (read : Read) (numbers : List ℕ) (e : read ≡ read_timing bytes) (n : numbers ≡ numbers_of read.timing) where
  by_word : (word : List ℕ) → word ≡ decimal (code_of read.answer) → numbers_line word [] numbers ≡ line_of bytes
  unfolding line_of
  by_word word w =
      ap₂ (λ (x y : List ℕ). numbers_line x [] y) w n
      ∙ ap (λ (r : Read). numbers_line (decimal (code_of r.answer)) [] (numbers_of r.timing)) e

  pub done-line : (x : ℕ) → read.answer ≡ Done x → numbers_line (0x30 ∷ []) [] numbers ≡ line_of bytes
  unfolding decimal decimal_places code_of
  done-line x d = by_word (0x30 ∷ []) (rw d refl)

  pub refused-line : ((x : ℕ) → read.answer ≡ Done x → ⊥) → numbers_line (0x31 ∷ 0x32 ∷ []) [] numbers ≡ line_of bytes
  unfolding decimal decimal_places
  refused-line d =
      by_word (0x31 ∷ 0x32 ∷ []) (ap decimal (sym (ap (λ (r : Read). code_of r.answer) e ∙ refused-code bytes (λ x h. d x (ap (λ (r : Read). r.answer) e ∙ h)))))

-- every number that is read has 16 bits
zeros-below : (n k : ℕ) → get_or (replicate n 0) k 0 < 65536
zeros-below zero k = omega arith
zeros-below (suc n) zero = omega arith
zeros-below (suc n) (suc k) = zeros-below n k

read_as : (bytes : List ℕ) → readable bytes ≡ true → (read_timing bytes).timing ≡ timing_of (read_numbers table bytes)
unfolding read_timing
read_as bytes e = rw e

unread-as : (bytes : List ℕ) → readable bytes ≡ false → (read_timing bytes).timing ≡ timing_of []
unfolding read_timing
unread-as bytes e = rw e

read_below : (bytes : List ℕ) (k : ℕ) → get_or (numbers_of (read_timing bytes).timing) k 0 < 65536
unfolding timing_of
read_below bytes k =
    by-test (readable bytes)
    (λ e. subst (λ (ns : List ℕ). get_or ns k 0 < 65536) (sym (ap numbers_of (read_as bytes e) ∙ numbers-kept bytes)) (numbers-below bytes k))
    (λ e. subst (λ (t : Timing). get_or (numbers_of t) k 0 < 65536) (sym (unread-as bytes e)) (zeros-below 14 k))

-- so it has at most five digits, behind a space six bytes
spaced-short : (ns : List ℕ) → ((k : ℕ) → get_or ns k 0 < 65536) → length (spaced [] ns) ≤ 6 * length ns
unfolding spaced
spaced-short [] below = omega arith
spaced-short (n ∷ ns) below =
    rw length-append
    (omega (arith, spaced-short ns (λ k. below (suc k)), plain-length false n refl, most-places 4 n n (omega (arith, below 0))))

code-short : (bytes : List ℕ) → length (decimal (code_of (read_timing bytes).answer)) ≤ 2
unfolding read_timing code_of decimal decimal_places
code-short bytes = by-test (readable bytes) (λ e. rw e (omega arith)) (λ e. rw e (omega arith))

pub line-short : (bytes : List ℕ) → length (line_of bytes) ≤ line_most
unfolding line_of line_most
line-short bytes =
    rw numbers-length
    (omega (arith, code-short bytes, spaced-short (numbers_of (read_timing bytes).timing) (read_below bytes)))
