-- The timing line of a file stands in a buffer that is long enough. Assumes nothing.
use Rattle.std.proofs.Common.{◌≡◌, ℕ, ◌+◌, ◌≤◌, T, List, ◌++◌, length, drop, sym, ap, ◌∙◌, zero-add, arith, length-append, le-leb}
use Rattle.io.specs.Counts.{IsPrefixLen}
use Rattle.file.specs.declared.answer.Answer.TheVariants.{Done}
use Rattle.file.specs.declared.registers.File.{File}
use Rattle.file.specs.Answers.{code_of, refused}
use Rattle.file.specs.Sound.{sound}
use Rattle.timing.specs.declared.Read.{Read}
use Rattle.timing.specs.Timing.{read_timing, timing_in}
use Rattle.text.specs.declared.placed.Placed.{Placed}
use Rattle.text.specs.Lent.{Lined, behind_by, fits, placed_by, room_answer}
use Rattle.replaying.specs.Replay.{timing_most}
use Rattle.text.specs.Text.{timing_line}
use Rattle.replaying.proofs.Timed.{line-short}
use Rattle.replaying.proofs.Whole.{timing-read}
use Rattle.shell.proofs.Bounds.{counts}

module _ (f : File) (s : T (sound f)) (t : Read) (e : t ≡ read_timing f) (before after : List ℕ) (room : timing_most ≤ length before) (r : Placed)
    (lined : Lined (room_answer before 0 (timing_line t.timing)) 0 (timing_line t.timing) before after r) where
  abbrev Line : List ℕ
  Line = timing_line (timing_in f)

  short : length Line ≤ length before
  short = omega (arith, line-short f, room)

  said : Lined (Done 0) 0 Line before after r
  unfolding room_answer fits
  said =
      rw (le-leb (0 + length Line) (length before) (omega (arith, short))) at
      (rw (timing-read f s t e) at lined)

  ended : r.end ≡ length Line
  unfolding behind_by refused code_of
  ended = said.ended ∙ zero-add _

  stored : after ≡ Line ++ drop r.end before
  unfolding placed_by behind_by refused code_of
  stored = said.bytes ∙ ap (λ (k : ℕ). Line ++ drop k before) (sym said.ended)

  pub timing-stands : IsPrefixLen r.end after × ((r.end ≡ length Line) × (after ≡ Line ++ drop r.end before))
  timing-stands = (counts after r.end (omega (arith, ended, ap length stored ∙ length-append Line (drop r.end before))), (ended, stored))
