-- What the contract of `read_into` tells, for every line and every file. Assumes nothing.
use Prim.Native.Nat.{ℕ}
use mathlib.Core.Bool.{Bool, true, false, cond}
use mathlib.Core.List.{List, [], ◌∷◌, append_assoc}
use mathlib.Core.Path.{◌≡◌, refl, sym, ap, ◌∙◌, subst}
use native.Mathlib.Omega.{arith}
use borrow.Author.Tests.{eqb-true}
use lib.Dec.{T, eqb}
use Rattle.std.specs.Prelude.{◌≤◌, MatchResult, Result, Ok, Err}
use lib.ListN.{length, take, drop}
use lib.Seq.{take_at, drop_at}
use Rattle.bits.proofs.Test.{second}
use Rattle.bits.specs.Numbers.{all_in_range}
use Rattle.bits.proofs.Tables.{written-outside}
use Rattle.bits.specs.Store.{store, within}
use Rattle.file.proofs.Reached.{same-outside}
use Rattle.file.proofs.Soundness.{apply-sound}
use Rattle.file.specs.Answers.{among, code_of}
use Rattle.file.specs.declared.answer.Answer.TheVariants.{Done as Answered, Locked as LockedOut, OutOfRange as Outside, NotSound as Unsound}
use Rattle.file.specs.Effects.{apply, store_in, reach_of}
use Rattle.file.specs.File.{register, crtc_locked, with_registers, with_state}
use Rattle.file.specs.Registers.{stored_bits, stored_table, registers, singles, sequencer, crtc, graphics, attribute, pipeline, v_port}
use Rattle.file.specs.Sound.{sound, keeps}
use Rattle.file.specs.State.{flipped}
use Rattle.file.specs.declared.chip.Chip.{Chip}
use Rattle.file.specs.declared.registers.File.{File}
use Rattle.timing.proofs.Writer.{with-sound}
use Rattle.timing.specs.Table.{table, wide}
use Rattle.timing.specs.Timing.{numbers_of, timing_answer, with_timing}
use Rattle.modes.proofs.Once.{told-good, told-once}
use Rattle.modes.specs.Promises.{Told}
use Rattle.modes.specs.Form.{Parts, Formed, header, spelled, mode_of, Good}
use Rattle.modes.specs.declared.mode.Mode.{Mode}
use Rattle.mode_file.specs.declared.into.ReadLine.{ReadLine}
use Rattle.mode_file.specs.declared.verdict.Verdict.{Verdict}
use Rattle.mode_file.specs.declared.verdict.Verdict.TheVariants.{Locked, OutOfRange, NotSound, BadText, NotMultiple, OtherTiming, OutOfForm}
use Rattle.mode_file.specs.Into.{said_of, flagged_line, refused_line, done_line, by_code, mode_line, read_mode, read_parsed, read_result, answered, read_with, ReadInto}
use Rattle.mode_file.specs.Promises.{ReadAs, SameOutsideMode}
use Rattle.mode_file.specs.Said.{eights, timing_said, flag_reach, flag_store, with_mode}
use Rattle.mode_file.specs.Verdicts.{number_of, position_of, code_said, position_said}

-- a choice has what both sides have, the first where it is chosen
either_way : {A : Type 0} (P : A → Type 0) (b : Bool) (x y : A) → (b ≡ true → P x) → P y → P (cond b x y)
either_way P true x y p q = p refl
either_way P false x y p q = q

-- what passed where a line was read
pub record Accepted (m : Mode) (f : File) : Type 0 where
  pub is-sound : sound f ≡ true
  pub even : eights m.numbers ≡ true
  pub written : timing_answer f (timing_said m.numbers) ≡ Answered 0

-- the timing writer's code is 0 only where it is done
code-done : (s l r : Bool) → code_of (cond s (cond l LockedOut (cond r (Answered 0) Outside)) Unsound) ≡ 0
    → cond s (cond l LockedOut (cond r (Answered 0) Outside)) Unsound ≡ Answered 0
unfolding code_of
code-done true true r e = absurd (omega (arith, e))
code-done true false true e = refl
code-done true false false e = absurd (omega (arith, e))
code-done false l r e = absurd (omega (arith, e))

-- the codes that refuse a line
abbrev pub refusals : List ℕ
refusals = 8 ∷ 10 ∷ 12 ∷ 18 ∷ 19 ∷ []

text-same : {a b : ℕ} → BadText a ≡ BadText b → a ≡ b
text-same e = cc e

-- a code other than 18 is none of bad text
no_text : (v : Verdict) (p : Result Mode ℕ) → (number_of v ≡ 18 → ⊥) → (place : ℕ) → v ≡ BadText place → p ≡ Err place
unfolding number_of
no_text v p n place e = absurd (n (ap number_of e))

-- what holds of each refusal, bad text at the place that was told, and of the line that is done, holds of what is read
pub by_answer : (P : ReadLine → Type 0) (p : Result Mode ℕ) (f : File)
    → ((v : Verdict) → T (among refusals (number_of v)) → ((place : ℕ) → v ≡ BadText place → p ≡ Err place) → P (refused_line v f))
    → ((m : Mode) → p ≡ Ok m → Accepted m f → P (done_line m f)) → P (read_with p f)
unfolding read_with answered read_result read_parsed number_of among read_mode mode_line by_code timing_answer
by_answer P (Err place) f refused done =
    either_way (λ (r : Result ReadLine Verdict). P (answered r f)) (sound f) _ _
    (λ s. refused (BadText place) tt (λ k e. ap Err (text-same e))) (refused NotSound tt (no_text NotSound (Err place) (λ e. omega (arith, e))))
by_answer P (Ok m) f refused done =
    either_way (λ (r : Result ReadLine Verdict). P (answered r f)) (sound f) _ _ (λ s. by_mode s) (refused NotSound tt (no_text NotSound (Ok m) (λ e. omega (arith, e))))
  where
    by_mode : sound f ≡ true → P (answered (read_mode m f) f)
    by_mode s =
        let code = code_of (timing_answer f (timing_said m.numbers)) in
        let Q : Result ReadLine Verdict → Type 0 = λ r. P (answered r f) in
        either_way Q (eights m.numbers) _ _
        (λ e. either_way Q (eqb code 8) _ _ (λ _. refused Locked tt (no_text Locked (Ok m) (λ e. omega (arith, e))))
        (either_way Q (eqb code 10) _ _ (λ _. refused OutOfRange tt (no_text OutOfRange (Ok m) (λ e. omega (arith, e))))
        (either_way Q (eqb code 0) _ _
        (λ z. done m refl (record { is-sound = s; even = e; written = code-done (sound f) (crtc_locked f) (all_in_range (table (wide f)) (numbers_of (timing_said m.numbers))) (eqb-true code 0 z) }))
        (refused NotSound tt (no_text NotSound (Ok m) (λ e. omega (arith, e)))))))
        (refused NotMultiple tt (no_text NotMultiple (Ok m) (λ e. omega (arith, e))))

-- MISC[7:6] are the flags' bits, and no others
pub flags-reach : flag_reach ≡ 0xC0
unfolding flag_reach
flags-reach = refl

-- a mode moves no bit outside its reach
mode-outside : (m : Mode) (f : File) → SameOutsideMode f (with_mode m f)
unfolding with_mode with_timing with_registers register flag_store reach_of apply with_state flipped store_in
mode-outside m f =
    record {
      registers = λ r i e n.
          (same-outside (flag_store m.h_minus m.v_minus) (with_timing (timing_said m.numbers) f)).registers r i n
          ∙ written-outside (table (wide f)) (numbers_of (timing_said m.numbers)) f.registers r i e;
      palette = refl;
      bank = refl;
      state = refl;
    }

-- and keeps a file sound
flags-kept : (chip : Chip) (h v : Bool) → T (keeps chip (flag_store h v))
unfolding keeps flag_store flag_reach within store stored_bits stored_table registers singles sequencer crtc graphics attribute pipeline v_port
flags-kept chip h v = tt

mode-sound : (m : Mode) (f : File) → T (sound f) → T (sound (with_mode m f))
unfolding with_mode with_timing with_registers
mode-sound m f s =
    apply-sound (flag_store m.h_minus m.v_minus) (with_timing (timing_said m.numbers) f) (flags-kept f.state.chip m.h_minus m.v_minus)
    (with-sound (timing_said m.numbers) f s)

-- two answers that the contract allows are equal
pub read-once : (line : List ℕ) (f : File) (r s : ReadLine) → ReadInto line f r → ReadInto line f s → r ≡ s
read-once line f r s a b =
    a.answers ∙ ap (λ (p : Result Mode ℕ). read_with p f) (told-once line a.parsed b.parsed a.told b.told) ∙ sym b.answers

-- a name stands in a line behind the word and the quote
name-stands : (p : Parts) → take (length p.name) (drop (length header) (spelled p)) ≡ p.name
unfolding spelled
name-stands p =
    ap (take (length p.name)) (drop_at header _ (length header) refl)
    ∙ ap (take (length p.name)) (append_assoc p.name _ _)
    ∙ take_at p.name _ (length p.name) refl

-- of all answers only bad text has a position
only_bad_text : {A : Type 0} (r : Result A Verdict) → (code_said r ≡ 18 → ⊥) → position_said r ≡ 0
unfolding code_said position_said number_of position_of
only_bad_text (Ok done) n = refl
only_bad_text (Err Locked) n = refl
only_bad_text (Err OutOfRange) n = refl
only_bad_text (Err NotSound) n = refl
only_bad_text (Err (BadText place)) n = absurd (n refl)
only_bad_text (Err NotMultiple) n = refl
only_bad_text (Err OtherTiming) n = refl
only_bad_text (Err OutOfForm) n = refl

place-within : (n : ℕ) (v : Verdict) → ((place : ℕ) → v ≡ BadText place → place ≤ n) → position_of v ≤ n
unfolding position_of
place-within n Locked b = omega arith
place-within n OutOfRange b = omega arith
place-within n NotSound b = omega arith
place-within n (BadText place) b = b place refl
place-within n NotMultiple b = omega arith
place-within n OtherTiming b = omega arith
place-within n OutOfForm b = omega arith

pub ok-same : {A E : Type 0} {a b : A} → ◌≡◌ {A = Result A E} (Ok a) (Ok b) → a ≡ b
ok-same e = cc e

module _ (line : List ℕ) (f : File) (r : ReadLine) (met : ReadInto line f r) where
  -- what holds of each refusal and of the line that is done, holds of the answer
  by-met : (P : ReadLine → Type 0)
      → ((v : Verdict) → T (among refusals (number_of v)) → ((place : ℕ) → v ≡ BadText place → met.parsed ≡ Err place) → P (refused_line v f))
      → ((m : Mode) → met.parsed ≡ Ok m → Accepted m f → P (done_line m f)) → P r
  by-met P refused done = subst P (sym met.answers) (by_answer P met.parsed f refused done)

  -- whatever is answered, no bit moves outside a mode's reach
  pub line-outside : SameOutsideMode f r.file
  unfolding refused_line done_line flagged_line with_mode
  line-outside =
      by-met (λ x. SameOutsideMode f x.file)
      (λ v t b. record { registers = λ q i e n. refl; palette = refl; bank = refl; state = refl }) (λ m e a. mode-outside m f)

  -- and a sound file stays sound
  pub line-sound : T (sound f) → T (sound r.file)
  unfolding refused_line done_line flagged_line with_mode
  line-sound s = by-met (λ x. T (sound x.file)) (λ v t b. s) (λ m e a. mode-sound m f s)

  -- a refusal leaves the file, and says no name and no clock: it is a verdict alone
  pub line_refused : (code_said r.said ≡ 0 → ⊥) → (r.file ≡ f) × (v : Verdict) × (r.said ≡ Err v)
  unfolding refused_line done_line flagged_line code_said
  line_refused =
      by-met (λ x. (code_said x.said ≡ 0 → ⊥) → (x.file ≡ f) × (v : Verdict) × (x.said ≡ Err v))
      (λ v t b n. (refl, v, refl)) (λ m e a n. absurd (n refl))

  -- the position is 0 with every code but 18
  pub line-position : (code_said r.said ≡ 18 → ⊥) → position_said r.said ≡ 0
  line-position = only_bad_text r.said

  -- the codes of reading
  pub reading-codes : T (among (0 ∷ refusals) (code_said r.said))
  unfolding refused_line done_line flagged_line code_said among
  reading-codes =
      by-met (λ x. T (among (0 ∷ refusals) (code_said x.said)))
      (λ v t b. second (eqb (number_of v) 0) (among refusals (number_of v)) t) (λ m e a. tt)

  -- code 0 is answered where all is passed
  pub line-done : code_said r.said ≡ 0 → (m : Mode) × (met.parsed ≡ Ok m) × Accepted m f × (r ≡ done_line m f)
  unfolding refused_line number_of among code_said
  line-done =
      by-met (λ x. code_said x.said ≡ 0 → (m : Mode) × (met.parsed ≡ Ok m) × Accepted m f × (x ≡ done_line m f))
      (λ v t b z. absurd (rw z at t)) (λ m e a z. (m, e, a, refl))

  -- then the line is good
  pub line-good : (z : code_said r.said ≡ 0) → Good line (line-done z).0
  line-good z = (subst (Told line) (line-done z).1 met.told).good

  -- and of whatever parts it is made, they were told and accepted
  pub line-accepted : code_said r.said ≡ 0 → (p : Parts) → Formed p → line ≡ spelled p → Accepted (mode_of p) f × (r ≡ done_line (mode_of p) f)
  line-accepted z p g e =
      let d = line-done z in
      let same : d.0 ≡ mode_of p = ok-same (sym d.1 ∙ told-good line (mode_of p) met.parsed (record { parts = p; formed = g; text = e; says = refl }) met.told) in
      subst (λ (m : Mode). Accepted m f × (r ≡ done_line m f)) same (d.2, d.3)

  -- their name and their clock are told, and what they say is in the file
  pub line_read : code_said r.said ≡ 0 → (p : Parts) → Formed p → line ≡ spelled p → ReadAs line f r p
  unfolding done_line flagged_line said_of with_mode mode_of
  line_read z p g e =
      let all = (line-accepted z p g e).1 in
      record {
        formed = g;
        text = e;
        said = said_of (mode_of p);
        answered = ap (λ (x : ReadLine). x.said) all;
        name = ap (λ (l : List ℕ). take (length p.name) (drop (length header) l)) e ∙ name-stands p;
        clock = refl;
        file = ap (λ (x : ReadLine). x.file) all;
      }

  -- the clock is less than 1000 MHz, and the bad place is in the line or at its end
  pub line-bounds : MatchResult r.said (λ said. said.khz ≤ 999999) (λ v. position_of v ≤ length line)
  unfolding refused_line done_line flagged_line said_of mode_of
  line-bounds =
      by-met (λ x. MatchResult x.said (λ said. said.khz ≤ 999999) (λ v. position_of v ≤ length line))
      (λ v t b. place-within (length line) v (λ place e. (subst (Told line) (b place e) met.told).within))
      (λ m e a. let g = (subst (Told line) e met.told).good in subst (λ (k : ℕ). k ≤ 999999) (sym (ap (λ (x : Mode). x.khz) g.says)) g.formed.clock-most)
