-- 02, 4/13: the lines that end in a part of an input, and what is reported of them.
-- Assumes nothing.
use Rattle.std.specs.Prelude.{ℕ, zero, suc, ◌+◌, ◌-◌, ◌/◌, ◌≤◌, min, Bool, true, false, cond, List, [], ◌∷◌, ◌++◌, ◌≡◌, length, take, drop}
use Rattle.file.specs.declared.answer.Answer.TheVariants.{Done}
use Rattle.file.specs.declared.registers.File.{File}
use Rattle.mode_file.specs.declared.into.ReadLine.{ReadLine}
use Rattle.mode_file.specs.Into.{ReadInto}
use Rattle.mode_lines.specs.declared.parts.Progress.{Progress}
use Rattle.mode_lines.specs.declared.split.Taken.{Taken}
use Rattle.mode_lines.specs.Kept.{kept_text}
use Rattle.mode_lines.specs.Lines.{TookLine, has_newline, up_to}
use Rattle.mode_lines.specs.Report.{Reported, report_line}

-- the lines that were whole so far, as they were kept; what is kept of the next, at the start of a buffer; and how many bytes of the part that took
pub record Held : Type 0 where
  pub lines : List (List ℕ)
  pub kept : List ℕ
  pub count : ℕ
  pub used : ℕ

-- what a line has in a part, behind what is kept of it
unfoldable pub line_kept : Held → List ℕ → List ℕ
line_kept h part = kept_text h.kept h.count (up_to part)

-- the line doesn't end in the part
unfoldable pub with_part : Held → List ℕ → Held
with_part h part =
    record {
      lines = h.lines;
      kept = line_kept h part ++ drop (length (line_kept h part)) h.kept;
      count = length (line_kept h part);
      used = h.used + length (up_to part);
    }

-- or it does
unfoldable pub with_line : Held → List ℕ → Held
with_line h part =
    record {
      lines = h.lines ++ line_kept h part ∷ [];
      kept = line_kept h part ++ drop (length (line_kept h part)) h.kept;
      count = 0;
      used = h.used + length (up_to part) + 1;
    }

-- the part behind the first newline
unfoldable pub behind : List ℕ → List ℕ
behind part = drop (length (up_to part) + 1) part

-- so many lines at most
unfoldable pub take_lines : ℕ → Held → List ℕ → Held
take_lines zero h part = h
take_lines (suc most) h [] = h
take_lines (suc most) h (b ∷ s) =
    cond (has_newline (b ∷ s)) (take_lines most (with_line h (b ∷ s)) (behind (b ∷ s))) (with_part h (b ∷ s))

-- the number behind the lines that have numbers of 64 bits, and room for their reports
unfoldable pub last_number : ℕ → ℕ → ℕ
last_number number room = min (number + room / 256) 18446744073709551615

-- lines, each read into the file, and the reports of them, from a number on
pub data Reports (f : File) : ℕ → List (List ℕ) → List ℕ → Type 0 where
  none : {number : ℕ} → Reports f number [] []
  then : {number : ℕ} {lines : List (List ℕ)} {text : List ℕ} (line : List ℕ) (read : ReadLine) → ReadInto line f read → Reports f (suc number) lines text
      → Reports f number (line ∷ lines) (report_line number read ++ text)

-- the lines that a part is taken by, behind so many bytes that are kept
unfoldable pub taken : ℕ → ℕ → ℕ → List ℕ → List ℕ → Held
taken number room count kept part =
    take_lines (last_number number room - number) (record { lines = []; kept = kept; count = count; used = 0 }) part

-- what comes back, what is kept, and what the reports' buffer holds
pub record PartReported (f : File) (number count : ℕ) (part kept₀ kept reports₀ reports : List ℕ) (r : Progress) : Type 0 where
  pub used : r.used ≡ (taken number (length reports₀) count kept₀ part).used
  pub held : kept ≡ (taken number (length reports₀) count kept₀ part).kept
  pub counted : r.count ≡ (taken number (length reports₀) count kept₀ part).count
  pub numbered : r.number ≡ number + length (taken number (length reports₀) count kept₀ part).lines
  pub text : List ℕ
  pub told : Reports f number (taken number (length reports₀) count kept₀ part).lines text
  pub ended : r.end ≡ length text
  pub stored : reports ≡ text ++ drop (length text) reports₀

-- one line of it
abbrev pub next_by : Bool → File → Progress → List ℕ → List ℕ → List ℕ → Taken → Progress → Type 0
next_by true f before kept reports₀ reports taken r =
    (r.number ≡ before.number + 1) × (r.count ≡ 0)
    × Reported (take taken.count kept) f before.number before.end reports₀ reports (record { answer = Done 0; end = r.end })
next_by false f before kept reports₀ reports taken r =
    (r.number ≡ before.number) × (r.count ≡ taken.count) × (r.end ≡ before.end) × (reports ≡ reports₀)

pub record NextReported (f : File) (before : Progress) (part kept₀ kept reports₀ reports : List ℕ) (r : Progress) : Type 0 where
  pub taken : Taken
  pub took : TookLine part kept₀ before.count kept taken
  pub used : r.used ≡ before.used + taken.used
  pub short : r.end ≤ before.end + 256
  pub next : next_by taken.ended f before kept reports₀ reports taken r
