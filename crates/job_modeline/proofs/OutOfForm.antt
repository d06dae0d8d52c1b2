-- A name that is empty or has more than 32 bytes has no line, nor has a clock that is empty or has more than 53 bytes: no word has to be cut before it is
-- asked for. Assumes nothing.
use Prim.Native.Nat.{ℕ, ◌≤◌}
use mathlib.Core.Bool.{not, ◌&&◌, ◌||◌}
use mathlib.Core.List.{List, [], ◌∷◌, ◌++◌, append_assoc}
use mathlib.Core.Path.{◌≡◌, refl, sym, ap, ◌∙◌, subst}
use native.Mathlib.Omega.{arith}
use lib.Dec.{T, eqb, leb, leb→le}
use lib.ListN.{length, drop, get_or, length-append, replicate}
use Rattle.bits.proofs.Test.{left, passes, right}
use Rattle.file.specs.declared.registers.File.{File}
use Rattle.file.specs.Readers.{ascii}
use Rattle.modes.specs.declared.mode.Mode.{Mode}
use Rattle.std.specs.Prelude.{Result, Ok, Err}
use Rattle.mode_file.specs.Verdicts.{code_said}
use Rattle.modes.specs.Form.{Formed, Good, Parts, clock_text, digit, every, flags_text, header, mode_of, name_byte, numbers_text, numeral, spelled}
use Rattle.modes.specs.Promises.{Told}
use Rattle.mode_text.specs.Out.{clock_fits, name_fits, write_verdict}
use Rattle.mode_lines.specs.ClockLine.{ClockSaid, clock_line, khz_said}
use Rattle.mode_lines.proofs.FirstBytes.{good-short}
use Rattle.job_modeline.specs.OneLine.{LinePut, line_with}
use Rattle.job_modeline.proofs.LinesPut.{Asked, end-code, in-form}

-- no name has a quote
no-quote : (byte : ℕ) → 0x22 ≡ byte → T (name_byte byte) → ⊥
unfolding name_byte
no-quote byte e t = subst (λ (b : ℕ). T (name_byte b)) (sym e) t

-- so what follows the quote that ends a name is equal in two ways to take a line apart
after-quote : (a b x y : List ℕ) → T (every name_byte a) → T (every name_byte b) → a ++ 0x22 ∷ x ≡ b ++ 0x22 ∷ y → x ≡ y
unfolding every
after-quote [] [] x y s t e = ap (drop 1) e
after-quote [] (c ∷ b) x y s t e = absurd (no-quote c (ap (λ (l : List ℕ). get_or l 0 0) e) (left (name_byte c) (every name_byte b) t))
after-quote (c ∷ a) [] x y s t e = absurd (no-quote c (sym (ap (λ (l : List ℕ). get_or l 0 0) e)) (left (name_byte c) (every name_byte a) s))
after-quote (c ∷ a) (d ∷ b) x y s t e =
    after-quote a b x y (right (name_byte c) (every name_byte a) s) (right (name_byte d) (every name_byte b) t) (ap (drop 1) e)

-- the clock, the numbers and the flags of a line
abbrev Rest : Parts → List ℕ
Rest p = clock_text p.whole p.decimals ++ (numbers_text p.numbers ++ flags_text p.flags)

-- they have at most 69 bytes: with a name of 32 a line of them has 113
rest-short : (p : Parts) → Formed p → length (Rest p) ≤ 69
unfolding spelled header ascii every name_byte
rest-short p f =
    let q : Parts = record { name = replicate 32 0x61; whole = p.whole; decimals = p.decimals; numbers = p.numbers; flags = p.flags } in
    let formed : Formed q =
    record {
      named = tt;
      name-least = omega arith;
      name-most = omega arith;
      whole = f.whole;
      decimals = f.decimals;
      decimals-most = f.decimals-most;
      clock-least = f.clock-least;
      clock-most = f.clock-most;
      count = f.count;
      numbers = f.numbers;
      flags = f.flags;
    } in
    omega (arith, good-short (spelled q) (mode_of q) (record { parts = q; formed = formed; text = refl; says = refl }))

-- and they begin with a digit
first-digit : (whole decimals rest : List ℕ) → T (numeral whole) → get_or (clock_text whole decimals ++ rest) 0 0 ≡ 0x20 → ⊥
unfolding clock_text numeral digit every
first-digit [] decimals rest t e = absurd t
first-digit (b ∷ w) [] rest t e =
    let first = left (digit b) (every digit w) (left (digit b && every digit w) (not (eqb b 0x30) || eqb (length w) 0) t) in
    omega (arith, leb→le 0x30 b (left (leb 0x30 b) (leb b 0x39) first), e)
first-digit (b ∷ w) (d ∷ ds) rest t e =
    let first = left (digit b) (every digit w) (left (digit b && every digit w) (not (eqb b 0x30) || eqb (length w) 0) t) in
    omega (arith, leb→le 0x30 b (left (leb 0x30 b) (leb b 0x39) first), e)

-- a clock that says some kHz stands in a good line
said-good : (name mhz : List ℕ) (khz : ℕ) → ClockSaid name mhz khz → 1 ≤ khz → (mode : Mode) × Good (clock_line name mhz) mode
unfolding khz_said
said-good name mhz khz said some = by said.parsed said.told said.says
  where
    by : (p : Result Mode ℕ) → Told (clock_line name mhz) p → khz ≡ khz_said p → (mode : Mode) × Good (clock_line name mhz) mode
    by (Ok mode) t e = (mode, t.good)
    by (Err place) t e = absurd (omega (arith, some, e))

-- so its words are a clock's
rest-said : (name mhz : List ℕ) (mode : Mode) → T (every name_byte name) → (g : Good (clock_line name mhz) mode)
    → Rest g.parts ≡ mhz ++ ascii " 0 0 0 0 0 0 0 0"
unfolding clock_line spelled header ascii
rest-said name mhz mode t g =
    let p = g.parts in
    let zeros : List ℕ = ascii " 0 0 0 0 0 0 0 0" in
    let words : List ℕ = mhz ++ zeros in
    let asked : drop 10 (clock_line name mhz) ≡ name ++ (0x22 ∷ 0x20 ∷ words) =
    append_assoc (name ++ (0x22 ∷ 0x20 ∷ [])) mhz zeros ∙ append_assoc name (0x22 ∷ 0x20 ∷ []) words in
    let same : name ++ (0x22 ∷ 0x20 ∷ words) ≡ p.name ++ (0x22 ∷ 0x20 ∷ Rest p) = sym asked ∙ simp append_assoc at (ap (drop 10) g.text) in
    ap (drop 1) (sym (after-quote name p.name (0x20 ∷ words) (0x20 ∷ Rest p) t g.formed.named same))

-- the name and the clock that a line was put with
module _ {f : File} {name mhz out₀ out : List ℕ} {end : ℕ} (put : LinePut f name mhz out₀ out (Ok end)) where
  asked : T (name_fits name && clock_fits put.khz)
  unfolding code_said
  asked =
      left (name_fits name && clock_fits put.khz) (leb 256 (length out₀))
      (passes (Asked f name put.khz (length out₀))
      (in-form f name put.khz (length out₀)
      (sym (end-code (line_with f name put.khz) (write_verdict f name put.khz (length out₀))) ∙ sym (ap code_said put.answered))))

  named : T (leb 1 (length name) && leb (length name) 32 && every name_byte name)
  unfolding name_fits
  named = left (name_fits name) (clock_fits put.khz) asked

  sized : T (leb 1 (length name) && leb (length name) 32)
  sized = left (leb 1 (length name) && leb (length name) 32) (every name_byte name) named

  pub name-least : 1 ≤ length name
  name-least = leb→le 1 (length name) (left (leb 1 (length name)) (leb (length name) 32) sized)

  pub name-most : length name ≤ 32
  name-most = leb→le (length name) 32 (right (leb 1 (length name)) (leb (length name) 32) sized)

  some-clock : 1 ≤ put.khz
  unfolding clock_fits
  some-clock = leb→le 1 put.khz (left (leb 1 put.khz) (leb put.khz 999999) (right (name_fits name) (clock_fits put.khz) asked))

  abbrev Line : (mode : Mode) × Good (clock_line name mhz) mode
  Line = said-good name mhz put.khz put.said some-clock

  rest : Rest Line.1.parts ≡ mhz ++ ascii " 0 0 0 0 0 0 0 0"
  rest =
      rest-said name mhz Line.0 (right (leb 1 (length name) && leb (length name) 32) (every name_byte name) named) Line.1

  pub clock-most : length mhz ≤ 53
  unfolding ascii
  clock-most =
      omega (arith, ap length rest ∙ length-append mhz (ascii " 0 0 0 0 0 0 0 0"), rest-short Line.1.parts Line.1.formed)

  pub clock-least : 1 ≤ length mhz
  unfolding ascii
  clock-least = some mhz rest
    where
      some : (words : List ℕ) → Rest Line.1.parts ≡ words ++ ascii " 0 0 0 0 0 0 0 0" → 1 ≤ length words
      some [] e =
          absurd (first-digit Line.1.parts.whole Line.1.parts.decimals _ Line.1.formed.whole (ap (λ (l : List ℕ). get_or l 0 0) e))
      some (b ∷ words) e = omega arith
