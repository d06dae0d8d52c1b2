-- The whole of a trace: the lines of its records, and the timing line behind them, are what 01 prints of it. Assumes nothing.
use Prim.Native.Nat.{ℕ, ◌+◌, ◌*◌, ◌≤◌}
use mathlib.Core.Bool.{true, false}
use mathlib.Core.List.{List, ◌++◌}
use mathlib.Core.Path.{◌≡◌, refl, sym, ap, ◌∙◌}
use native.Mathlib.Nat.{zero-add}
use native.Mathlib.Omega.{arith}
use borrow.Author.Tests.{le-leb}
use lib.Dec.{T}
use lib.ListN.{length, drop, length-append}
use lib.Seq.{length-sets, sets-eq}
use Rattle.bits.proofs.Test.{is_true}
use Rattle.file.specs.declared.answer.Answer.TheVariants.{Done, ShortBuffer}
use Rattle.file.specs.declared.chip.Chip.{Chip}
use Rattle.file.specs.declared.registers.File.{File}
use Rattle.file.specs.Answers.{code_of, refused}
use Rattle.file.specs.File.{power_on}
use Rattle.file.specs.Sound.{sound}
use Rattle.file.proofs.Soundness.{power_on-sound}
use Rattle.timing.specs.declared.Read.{Read}
use Rattle.timing.specs.Timing.{read_timing, timing_in}
use Rattle.trace.specs.Records.{items, item_count}
use Rattle.trace.proofs.RunMore.{run_sound}
use Rattle.text.specs.declared.placed.Placed.{Placed}
use Rattle.replaying.specs.declared.Part.{Part}
use Rattle.text.specs.Lent.{Lined, Wrote, fits, placed_by, room_answer}
use Rattle.replaying.specs.Replay.{Parted, after_part, asked, part_lines, part_replies, records_fit, replay_answer, timing_most, replayed, replayed_from}
use Rattle.text.specs.Text.{timing_line}
use Rattle.replaying.proofs.PartRuns.{fit-lines, fit-replies, lines-short, replies-long}
use Rattle.text.proofs.Stores.{then-text, unplaced, whole, wrote}
use Rattle.replaying.proofs.Timed.{line-short}

-- a part leaves a sound file sound
pub part_sound : (f : File) (part : List ℕ) → T (sound f) → T (sound (after_part f part))
unfolding after_part
part_sound f part s = run_sound f (items (item_count part) part) s

-- the timing that is read of a sound file
pub timing-read : (f : File) → T (sound f) → (t : Read) → t ≡ read_timing f → t.timing ≡ timing_in f
unfolding read_timing
timing-read f s t e = ap (λ (x : Read). x.timing) e ∙ rw (is_true (sound f) s) refl

module _ (chip : Chip) (trace replies₀ lines₀ : List ℕ) where
  abbrev On : File
  On = power_on chip

  -- a short buffer leaves both as they were
  pub not-replayed : records_fit (item_count trace) timing_most (length replies₀) (length lines₀) ≡ false
      → Lined (replay_answer trace replies₀ lines₀) 0 (replayed chip trace) lines₀ lines₀ (record { answer = ShortBuffer; end = 0 })
      × (replies₀ ≡ placed_by ShortBuffer replies₀ 0 (part_replies On trace))
  unfolding replay_answer placed_by refused code_of
  not-replayed e = (unplaced lines₀ 0 (replayed chip trace) ShortBuffer (rw e refl) refl, refl)

  module _ (room : records_fit (item_count trace) timing_most (length replies₀) (length lines₀) ≡ true)
      (numbered : item_count trace ≤ 18446744073709551616) where
    abbrev Lines : List ℕ
    Lines = part_lines 0 On trace

    abbrev After : File
    After = after_part On trace

    abbrev Last : List ℕ
    Last = timing_line (timing_in (after_part On trace))

    text-fits : length Lines + length Last ≤ length lines₀
    text-fits =
        omega (arith, lines-short 0 On trace (omega (arith, numbered)), line-short After, fit-lines _ _ _ _ room)

    -- room for its part
    pub replies-fit : 8 * item_count trace ≤ length replies₀
    replies-fit = fit-replies _ _ _ _ room

    pub lines-fit : 30 * item_count trace ≤ length lines₀
    lines-fit = omega (arith, fit-lines _ _ _ _ room)

    module _ (p : Part) (filled lines₁ : List ℕ) (parted : Parted On 0 true trace replies₀ filled lines₀ lines₁ p) where
      lines-wrote : Wrote lines₀ 0 Lines lines₁ p.end
      unfolding asked
      lines-wrote =
          record {
            bytes =
                parted.printed
                ∙ ap (λ (k : ℕ). Lines ++ drop k lines₀) (parted.end ∙ sym (zero-add _))
                ∙ sym (sets-eq Lines lines₀ 0 (omega (arith, text-fits)));
            place = parted.end ∙ sym (zero-add _);
          }

      -- and then the timing line
      pub whole-replayed : (t : Read) → t ≡ read_timing p.file → (lines₂ : List ℕ) (r : Placed)
          → Lined (room_answer lines₁ p.end (timing_line t.timing)) p.end (timing_line t.timing) lines₁ lines₂ r
          → Lined (replay_answer trace replies₀ lines₀) 0 (replayed chip trace) lines₀ lines₂ r
          × (filled ≡ placed_by r.answer replies₀ 0 (part_replies On trace))
      unfolding replay_answer replayed replayed_from part_lines after_part room_answer fits placed_by refused code_of
      whole-replayed t e lines₂ r lined =
          let timed : t.timing ≡ timing_in After = timing-read After (part_sound On trace (power_on-sound chip)) t (e ∙ ap read_timing parted.file) in
          let last : Lined (room_answer lines₁ p.end Last) p.end Last lines₁ lines₂ r = rw timed at lined in
          let long : length lines₁ ≡ length lines₀ = ap length lines-wrote.bytes ∙ length-sets lines₀ 0 Lines in
          let room-left : p.end + length Last ≤ length lines₁ = omega (arith, long, lines-wrote.place, text-fits) in
          let yes : room_answer lines₁ p.end Last ≡ Done 0 = rw (le-leb (p.end + length Last) (length lines₁) room-left) refl in
          let both = then-text lines-wrote (wrote lines₁ p.end Last yes room-left last) in
          let all = whole lines₀ 0 (replayed chip trace) {answer = replay_answer trace replies₀ lines₀} (rw room refl) (simp length-append (omega (arith, text-fits))) both in
          let answered : r.answer ≡ Done 0 = last.answered ∙ yes in
          (record { answered = answered ∙ all.answered; ended = all.ended; bytes = all.bytes }, rw answered (parted.replied ∙ rw (zero-add, replies-long) refl))
