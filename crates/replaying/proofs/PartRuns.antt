-- A part of a trace: the run leaves its file and its replies, and the lines of the replies are those that 01 gives its records. Assumes nothing.
use Prim.Native.Nat.{ℕ, suc, ◌+◌, ◌*◌, ◌/◌, ◌≤◌, ◌<◌, min}
use Rattle.std.proofs.Common.{◌^◌, Result, Ok, Err}
use mathlib.Core.Bool.{Bool, true, false, ◌&&◌}
use mathlib.Core.List.{List, [], ◌∷◌, ◌++◌, append-nil}
use mathlib.Core.Path.{◌≡◌, refl, sym, ap, ap₂, ◌∙◌}
use native.Mathlib.Nat.{min-eq_left, zero-add}
use native.Mathlib.Omega.{arith}
use borrow.Author.Tests.{eqb-true, le-leb}
use lib.Dec.{T, eqb, leb, leb→le, ltb, ltb→lt}
use lib.ListN.{length, take, drop, length-append}
use lib.Seq.{take_at}
use Rattle.bits.proofs.Test.{by-test, is_true, left, right, passes}
use Rattle.access.specs.declared.record.Item.{Item}
use Rattle.access.specs.Access.{access_item}
use Rattle.file.specs.declared.answer.Answer.{Answer}
use Rattle.file.specs.declared.answer.Answer.TheVariants.{Done, OutOfRange, ShortBuffer, NotSound}
use Rattle.file.specs.declared.registers.File.{File}
use Rattle.replaying.specs.declared.Part.{Part}
use Rattle.file.specs.Answers.{code_of, is_listed, listed, one_of, refused, value_of}
use Rattle.file.specs.Sound.{sound}
use Rattle.file.proofs.Codes.{every-listed}
use Rattle.trace.specs.Records.{items, item_count}
use Rattle.trace.specs.declared.running.Ran.{Ran}
use Rattle.trace.specs.Run.{filled, run, ran, run_count}
use Rattle.trace.specs.Run.{RunLeft as LeftBy}
use Rattle.trace.proofs.RunMore.{items-length, replies-length}
use Rattle.text.specs.declared.placed.Placed.{Placed}
use Rattle.text.specs.Lent.{Lined, behind_by, fits, placed_by, room_answer}
use Rattle.replaying.specs.Replay.{PartRan, PartReplayed, Parted, after_part, asked, part_answer, part_lines, part_replies, part_result, records_fit, record_line, record_lines}
use Rattle.text.specs.Text.{all_lines, lines_answer, numbers_fit, reply_lines}
use Rattle.text.proofs.Lines.{line-most}
use Rattle.replaying.proofs.Pieces.{lines-of-run}

unfoldable all_bytes : List ℕ → Bool
all_bytes [] = true
all_bytes (code ∷ codes) = ltb code 256 && all_bytes codes

-- a code of a list of bytes is a byte
byte_of : (codes : List ℕ) (a : Answer) → T (all_bytes codes) → T (one_of codes a) → code_of a < 256
unfolding all_bytes one_of
byte_of [] a small one = absurd one
byte_of (code ∷ codes) a small one =
    by-test (eqb (code_of a) code)
    (λ e. omega (arith, eqb-true (code_of a) code e, ltb→lt code 256 (left (ltb code 256) (all_bytes codes) small)))
    (λ e. byte_of codes a (right (ltb code 256) (all_bytes codes) small) (rw e at one))

code-small : (a : Answer) → code_of a < 256
unfolding all_bytes listed is_listed
code-small a = byte_of listed a tt (every-listed a)

-- a record's line has at most 30 bytes
records-most : (number : ℕ) (f : File) (is : List Item) → number + length is ≤ 18446744073709551616
    → length (record_lines number f is) ≤ 30 * length is
unfolding record_lines record_line
records-most number f [] low = omega arith
records-most number f (i ∷ is) low =
    let a = (access_item f i).answer in
    let one = line-most number (code_of a) (value_of a) (omega arith) (code-small a) in
    let rest = records-most (suc number) (access_item f i).file is (omega arith) in
    rw length-append (omega arith)

pub lines-short : (number : ℕ) (f : File) (part : List ℕ) → number + item_count part ≤ 18446744073709551616
    → length (part_lines number f part) ≤ 30 * item_count part
unfolding part_lines
lines-short number f part low =
    let many = items-length (item_count part) part in
    omega (arith, records-most number f (items (item_count part) part) (omega (arith, many)), many)

-- a reply has 8
pub replies-long : (f : File) (part : List ℕ) → length (part_replies f part) ≡ 8 * item_count part
unfolding part_replies
replies-long f part = replies-length f (items (item_count part) part) ∙ ap (λ (k : ℕ). 8 * k) (items-length (item_count part) part)

module _ (count last replies lines : ℕ) where
  -- what the test of room says
  pub fit-replies : records_fit count last replies lines ≡ true → 8 * count ≤ replies
  unfolding records_fit
  fit-replies e = leb→le _ _ (left (leb (8 * count) replies) (leb (30 * count + last) lines) (passes _ e))

  pub fit-lines : records_fit count last replies lines ≡ true → 30 * count + last ≤ lines
  unfolding records_fit
  fit-lines e = leb→le _ _ (right (leb (8 * count) replies) (leb (30 * count + last) lines) (passes _ e))

  pub both-fit : 8 * count ≤ replies → 30 * count + last ≤ lines → records_fit count last replies lines ≡ true
  unfolding records_fit
  both-fit h l = rw (le-leb _ _ h, le-leb _ _ l)

-- the replies of a run are within the buffer, whatever the file
run-within : (f : File) (part replies₀ : List ℕ) → 8 * (run f part replies₀).count ≤ length (run f part replies₀).buffer
unfolding run ran run_count
run-within f part replies₀ =
    let n = min (item_count part) (length replies₀ / 8) in
    by-test (sound f)
    (λ s. rw (s, length-append) (omega (arith, replies-length f (items n part), items-length n part)))
    (λ s. rw s (omega arith))

-- a part that is run from any file
module _ (f : File) (number : ℕ) (part replies₀ lines₀ : List ℕ) (r : Ran) (left : List ℕ)
    (same : (r.answer ≡ (run f part replies₀).answer) × (r.file ≡ (run f part replies₀).file) × (r.count ≡ (run f part replies₀).count))
    (same-left : left ≡ (run f part replies₀).buffer) where
  pub within : 8 * r.count ≤ length left
  within = omega (arith, run-within f part replies₀, same.2, ap length same-left)

  pub ran-unprinted : PartRan f number false part replies₀ left lines₀ lines₀ (record { file = r.file; count = r.count; end = 0 })
  ran-unprinted = record { file = same.1; count = same.2; replied = same-left; end = refl; printed = refl }

  its_replies : take (8 * r.count) left ≡ filled (run f part replies₀)
  unfolding filled
  its_replies = ap₂ (λ (k : ℕ) (l : List ℕ). take (8 * k) l) same.2 same-left

  pub ran-printed : (after : List ℕ) (p : Placed)
      → Lined (lines_answer lines₀ 0 number (take (8 * r.count) left)) 0 (all_lines number (take (8 * r.count) left)) lines₀ after p
      → PartRan f number true part replies₀ left lines₀ after (record { file = r.file; count = r.count; end = p.end })
  ran-printed after p l =
      let here = rw its_replies at l in
      record { file = same.1; count = same.2; replied = same-left; end = here.ended; printed = here.bytes }

-- a part that is run from a sound file, with room for its replies
module _ (f : File) (number : ℕ) (part replies₀ lines₀ : List ℕ) (good : T (sound f)) (room : 8 * item_count part ≤ length replies₀)
    (low : number + item_count part ≤ 2 ^ 64) (r : Ran) (filled : List ℕ)
    (same : (r.answer ≡ (run f part replies₀).answer) × (r.file ≡ (run f part replies₀).file) × (r.count ≡ (run f part replies₀).count))
    (same-filled : filled ≡ (run f part replies₀).buffer) where
  whole_run : run f part replies₀ ≡ ran (item_count part) f part replies₀
  unfolding run run_count
  whole_run =
      let all : min (item_count part) (length replies₀ / 8) ≡ item_count part = min-eq_left (omega (arith, room)) in
      rw (is_true (sound f) good, all)

  pub all-run : r.count ≡ item_count part
  unfolding ran
  all-run = same.2 ∙ ap (λ (x : LeftBy). x.count) whole_run

  file-after : r.file ≡ after_part f part
  unfolding ran after_part
  file-after = same.1 ∙ ap (λ (x : LeftBy). x.file) whole_run

  filled-with : filled ≡ part_replies f part ++ drop (8 * item_count part) replies₀
  unfolding ran part_replies
  filled-with = same-filled ∙ ap (λ (x : LeftBy). x.buffer) whole_run

  -- its lines aren't asked for
  pub part-unprinted : Parted f number false part replies₀ filled lines₀ lines₀ (record { file = r.file; count = r.count; end = 0 })
  unfolding asked
  part-unprinted = record { file = file-after; count = all-run; end = refl; replied = filled-with; printed = refl }

  -- what is lent for the lines has the replies
  said : take (8 * r.count) filled ≡ part_replies f part
  said =
      ap₂ (λ (k : ℕ) (l : List ℕ). take (8 * k) l) all-run filled-with
      ∙ take_at (part_replies f part) (drop (8 * item_count part) replies₀) (8 * item_count part) (replies-long f part)

  many : length (part_replies f part) / 8 ≡ item_count part
  many = omega (arith, replies-long f part)

  same_lines : all_lines number (part_replies f part) ≡ part_lines number f part
  unfolding all_lines part_lines part_replies
  same_lines =
      ap₂ (λ (k : ℕ) (l : List ℕ). reply_lines k number l) many (sym (append-nil (part_replies f part)))
      ∙ lines-of-run (item_count part) number f part []

  numbered : numbers_fit number (item_count part) ≡ true
  unfolding numbers_fit
  numbered = le-leb (number + item_count part) 18446744073709551616 (omega (arith, low))

  -- they are, and have room
  module _ (wide : 30 * item_count part ≤ length lines₀) where
    short : length (part_lines number f part) ≤ length lines₀
    short = omega (arith, lines-short number f part (omega (arith, low)), wide)

    answers : lines_answer lines₀ 0 number (part_replies f part) ≡ Done 0
    unfolding lines_answer room_answer fits
    answers =
        rw (many, numbered, same_lines, le-leb (0 + length (part_lines number f part)) (length lines₀) (omega (arith, short)))

    pub part-printed : (after : List ℕ) (p : Placed)
        → Lined (lines_answer lines₀ 0 number (take (8 * r.count) filled)) 0 (all_lines number (take (8 * r.count) filled)) lines₀ after p
        → Parted f number true part replies₀ filled lines₀ after (record { file = r.file; count = r.count; end = p.end })
    unfolding asked placed_by behind_by refused code_of
    part-printed after p l =
        let here : Lined (Done 0) 0 (part_lines number f part) lines₀ after p = rw (said, answers, same_lines) at l in
        let ended : p.end ≡ 0 + length (part_lines number f part) = here.ended in
        record {
          file = file-after;
          count = all-run;
          end = ended ∙ zero-add _;
          replied = filled-with;
          printed = here.bytes ∙ ap (λ (k : ℕ). part_lines number f part ++ drop k lines₀) (sym ended);
        }

-- a part whose lines are asked for, and the tests before it
module _ (f : File) (number : ℕ) (part replies₀ lines₀ : List ℕ) where
  -- one that is refused leaves all as it was
  part-refused : (a : Answer) → part_answer f number part replies₀ lines₀ ≡ a → refused a ≡ true
      → PartReplayed f number part replies₀ replies₀ lines₀ lines₀ (Err a)
  unfolding part_result placed_by
  part-refused a e n = record { told = rw (e, n) refl; replied = rw (e, n) refl; lined = rw (e, n) refl }

  pub not-sound : sound f ≡ false → PartReplayed f number part replies₀ replies₀ lines₀ lines₀ (Err NotSound)
  unfolding part_answer refused code_of
  not-sound s = part-refused NotSound (rw s refl) refl

  module _ (s : sound f ≡ true) where
    pub not-roomy : records_fit (item_count part) 0 (length replies₀) (length lines₀) ≡ false
        → PartReplayed f number part replies₀ replies₀ lines₀ lines₀ (Err ShortBuffer)
    unfolding part_answer refused code_of
    not-roomy e = part-refused ShortBuffer (rw (s, e) refl) refl

    module _ (roomy : records_fit (item_count part) 0 (length replies₀) (length lines₀) ≡ true) where
      pub not-numbered : numbers_fit number (item_count part) ≡ false
          → PartReplayed f number part replies₀ replies₀ lines₀ lines₀ (Err OutOfRange)
      unfolding part_answer refused code_of
      not-numbered e = part-refused OutOfRange (rw (s, roomy, e) refl) refl

      pub part-done : numbers_fit number (item_count part) ≡ true → {replies lines : List ℕ} {r : Part}
          → Parted f number true part replies₀ replies lines₀ lines r → PartReplayed f number part replies₀ replies lines₀ lines (Ok r)
      unfolding part_answer part_result placed_by refused code_of asked
      part-done e p =
          let yes : part_answer f number part replies₀ lines₀ ≡ Done 0 = rw (s, roomy, e) refl in
          record {
            told = rw yes (λ i. Ok (record { file = p.file i; count = p.count i; end = p.end i }));
            replied = rw yes (p.replied ∙ rw (zero-add, replies-long) refl);
            lined = rw yes (p.printed ∙ ap (λ (k : ℕ). part_lines number f part ++ drop k lines₀) (p.end ∙ sym (zero-add _)));
          }

-- what is refused leaves both buffers
pub refused-left : (f : File) (number : ℕ) (part replies₀ replies lines₀ lines : List ℕ) (e : Answer)
    → PartReplayed f number part replies₀ replies lines₀ lines (Err e) → (replies ≡ replies₀) × (lines ≡ lines₀)
unfolding part_result placed_by
refused-left f number part replies₀ replies lines₀ lines e p =
    by-test (refused (part_answer f number part replies₀ lines₀)) (λ r. (p.replied ∙ rw r refl, p.lined ∙ rw r refl))
    (λ r. let never : ◌≡◌ {A = Result Part Answer} (Err e) (Ok (record { file = after_part f part; count = item_count part; end = length (part_lines number f part) })) = rw r at p.told in absurd (cc))
