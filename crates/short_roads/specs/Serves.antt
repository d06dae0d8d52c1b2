-- 02, 11/13: what a short plan is, and how it stands in a buffer.
-- Assumes nothing.
use Rattle.std.specs.Prelude.{ℕ, ◌+◌, ◌*◌, ◌≤◌, ◌≡◌, true, false, List, ◌++◌, T, length, drop}
use Rattle.file.specs.declared.registers.File.{File}
use Rattle.file.specs.Sound.{sound}
use Rattle.access.specs.declared.record.Record.{Record}
use Rattle.roads.specs.Plan.{plan_records}
use Rattle.roads.specs.Restores.{Restores, all_in_bytes, all_ordinary, trace_of, IsFile}
use Rattle.touched.specs.declared.set.Touched.{Touched}
use Rattle.touched.specs.Things.{size, is_empty}
use Rattle.touched.specs.Outside.{agrees_outside}
use Rattle.short_roads.specs.ShortPlan.{short_records}

-- records that are a short plan of a saved file and a set, ordinary accesses as a full plan's: 'Run from the current file it ends in the saved file, as the
-- full plan does', from every sound file on its chip that differs from it inside the set only; 'The line stays outside'. Several are; `short_records` is one
pub record ShortPlans (w : File) (s : Touched) (records : List Record) : Type 0 where
  -- 'it is never longer than the full one'
  pub no_longer : length records ≤ length (plan_records w)
  -- 'a short plan for an empty set has at most 16 records; any other has at most 32, and 4 more for each register, palette entry, pointer, marks or
  -- toggle that the set names'
  pub of_empty : is_empty s ≡ true → length records ≤ 16
  pub of_other : is_empty s ≡ false → length records ≤ 32 + 4 * size s
  pub whole : T (all_in_bytes records)
  pub ordinary : T (all_ordinary records)
  pub restores : (f : File) → IsFile f → T (sound f) → f.state.chip ≡ w.state.chip → T (agrees_outside s f w) → Restores f records w

-- as a full plan is written: what a buffer holds before and after. As settled, 'A short plan's records go by saved file and set alone': they are
-- `short_records` of the two
pub record ShortWritten (w : File) (s : Touched) (before after : List ℕ) (count : ℕ) : Type 0 where
  pub records : List Record
  pub alone : records ≡ short_records w s
  pub plans : ShortPlans w s records
  pub counted : count ≡ length records
  pub filled : after ≡ trace_of records ++ drop (8 * count) before
