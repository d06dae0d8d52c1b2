-- 02, 4/13: a line that was read, written again with its name and its clock from the file that it was read into, is the same line with three decimals and
-- both flags. Assumes nothing.
use Prim.Native.Nat.{◌≤◌, ℕ, zero, suc, ◌-◌, ◌*◌, ◌/◌, ◌%◌, ◌^◌}
use mathlib.Core.Bool.{true}
use mathlib.Core.List.{List, ◌++◌, map}
use mathlib.Core.Path.{◌≡◌, sym, ap, ◌∙◌}
use native.Mathlib.Omega.{arith}
use borrow.Author.Tests.{le-leb}
use lib.Dec.{T}
use lib.ListN.{length, length-append, length-map, length-replicate, replicate}
use Rattle.io.specs.Digits.{last_digits}
use Rattle.bits.proofs.Test.{is_true, passes}
use Rattle.file.specs.Sound.{sound}
use Rattle.file.specs.declared.registers.File.{File}
use Rattle.text.specs.Text.{decimal}
use Rattle.timing.specs.Timing.{timing_in}
use Rattle.modes.proofs.Tokens.{value-append}
use Rattle.modes.specs.declared.mode.Axis.TheVariants.{Horizontal, Vertical}
use Rattle.modes.specs.Form.{Parts, every, digit, value_from, value_of, kilohertz, Formed, spelled, minus_of, mode_of}
use Rattle.mode_file.proofs.Laws.{line-accepted, line-good, line_read, line-sound}
use Rattle.mode_file.specs.Into.{ReadInto}
use Rattle.mode_file.specs.Said.{timing_said}
use Rattle.mode_file.specs.Verdicts.{code_said}
use Rattle.mode_file.specs.declared.into.ReadLine.{ReadLine}
use Rattle.mode_file.specs.declared.into.LineSaid.{LineSaid}
use Rattle.mode_file.specs.Promises.{name_in}
use Rattle.std.specs.Prelude.{Ok}
use Rattle.mode_text.specs.Out.{name_fits, clock_fits, numbers_out, parts_with, parts_out, line_out, minus_in, write_verdict}
use Rattle.mode_text.specs.Promises.{respelled, Respelled, WrittenAgain}
use Rattle.mode_text.proofs.Decimals.{every_append}
use Rattle.mode_text.proofs.ModeInFile.{mode-timing, mode-flags}
use Rattle.mode_text.proofs.NumbersSaid.{numbers-back, said-form}
use Rattle.mode_text.proofs.Spellings.{decimal-of, decimals-of, value-zeros, Thousandths, thousandths}

zeros : (k : ℕ) → T (every digit (replicate k 0x30))
unfolding every digit
zeros zero = tt
zeros (suc k) = zeros k

-- the clock's digits, with three decimals, are those of its kilohertz
module _ (p : Parts) (formed : Formed p) where
  abbrev three : List ℕ
  three = p.decimals ++ replicate (3 - length p.decimals) 0x30

  clock-value : kilohertz p.whole p.decimals ≡ value_from (value_of p.whole) three
  unfolding kilohertz value_of
  clock-value =
      sym
      (value-append (value_from 0 p.whole) p.decimals (replicate (3 - length p.decimals) 0x30)
      ∙ value-zeros (value_from (value_from 0 p.whole) p.decimals) (3 - length p.decimals)
      ∙ ap (λ (v : ℕ). v * 10 ^ (3 - length p.decimals)) (sym (value-append 0 p.whole p.decimals)))

  clock-parts : Thousandths (value_of p.whole) three
  clock-parts =
      thousandths (value_of p.whole) three
      (rw (length-append, length-replicate) (omega (arith, formed.decimals-most)))
      (every_append digit p.decimals (replicate (3 - length p.decimals) 0x30) formed.decimals (zeros (3 - length p.decimals)))

  whole_back : decimal (kilohertz p.whole p.decimals / 1000) ≡ p.whole
  whole_back = ap (λ (k : ℕ). decimal (k / 1000)) clock-value ∙ ap decimal clock-parts.before ∙ decimal-of p.whole formed.whole

  decimals-back : last_digits 10 3 (kilohertz p.whole p.decimals % 1000) ≡ three
  decimals-back = ap (λ (k : ℕ). last_digits 10 3 (k % 1000)) clock-value ∙ clock-parts.behind

  -- the writer asks for no other name and no other clock
  name-right : name_fits p.name ≡ true
  unfolding name_fits
  name-right = rw (le-leb 1 (length p.name) formed.name-least, le-leb (length p.name) 32 formed.name-most) (is_true _ formed.named)

  clock-right : clock_fits (kilohertz p.whole p.decimals) ≡ true
  unfolding clock_fits
  clock-right =
      rw (le-leb 1 (kilohertz p.whole p.decimals) formed.clock-least, le-leb (kilohertz p.whole p.decimals) 999999 formed.clock-most)

module _ (line : List ℕ) (f : File) (r : ReadLine) (met : ReadInto line f r) (z : code_said r.said ≡ 0) (p : Parts) (formed : Formed p)
    (text : line ≡ spelled p) where
  timing-read : timing_in r.file ≡ timing_said (map value_of p.numbers)
  unfolding mode_of
  timing-read =
      let done = (line-accepted line f r met z p formed text).0 in
      ap timing_in (line_read line f r met z p formed text).file ∙ mode-timing f (mode_of p) (passes _ done.is-sound) done.written

  flags-read : (minus_in r.file 6 ≡ minus_of Horizontal p.flags) × (minus_in r.file 7 ≡ minus_of Vertical p.flags)
  unfolding mode_of
  flags-read =
      let done = (line-accepted line f r met z p formed text).0 in
      let put = (line_read line f r met z p formed text).file in
      let flags = mode-flags f (mode_of p) (passes _ done.is-sound) done.written in
      (ap (λ (x : File). minus_in x 6) put ∙ flags.0, ap (λ (x : File). minus_in x 7) put ∙ flags.1)

  numbers-read : map decimal (numbers_out (timing_in r.file)) ≡ p.numbers
  unfolding mode_of
  numbers-read =
      let done = (line-accepted line f r met z p formed text).0 in
      ap (λ t. map decimal (numbers_out t)) timing-read
      ∙ ap (map decimal) (numbers-back (map value_of p.numbers) (length-map p.numbers value_of ∙ formed.count) (passes _ done.even))
      ∙ decimals-of 5 p.numbers formed.numbers

  abbrev said : LineSaid
  said = (line_read line f r met z p formed text).said

  accepts : (room : ℕ) → 256 ≤ room → write_verdict r.file (name_in line said) said.khz room ≡ Ok (length (line_out r.file (name_in line said) said.khz))
  unfolding write_verdict
  accepts room h =
      rw (
        is_true (sound r.file) (line-sound line f r met (passes _ (line-accepted line f r met z p formed text).0.is-sound)),
        (line_read line f r met z p formed text).name,
        (line_read line f r met z p formed text).clock,
        name-right p formed,
        clock-right p formed,
        le-leb 256 room h,
        timing-read,
        said-form (map value_of p.numbers),
      )

  same-line : line_out r.file (name_in line said) said.khz ≡ spelled (respelled p)
  unfolding line_out parts_out parts_with respelled
  same-line =
      let read = line_read line f r met z p formed text in
      ap spelled (rw (read.name, read.clock, whole_back p formed, decimals-back p formed, numbers-read, flags-read.0, flags-read.1))

  -- for whatever parts the line is made of
  pub parts_again : WrittenAgain line r p
  parts_again =
      record {
        said = said;
        answered = (line_read line f r met z p formed text).answered;
        accepted = λ room h. accepts room h ∙ ap (λ (l : List ℕ). Ok (length l)) same-line;
        again = same-line;
      }

-- for every line that was read
pub read-writes-again : (line : List ℕ) (f : File) (r : ReadLine) → ReadInto line f r → (said : LineSaid) → r.said ≡ Ok said → Respelled line r
unfolding code_said
read-writes-again line f r met said e =
    let z : code_said r.said ≡ 0 = ap code_said e in
    let good = line-good line f r met z in
    record {
      parts = good.parts;
      formed = good.formed;
      text = good.text;
      written = parts_again line f r met z good.parts good.formed good.text;
    }
