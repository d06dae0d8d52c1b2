-- 02, 11/13: a second trace behind a saved file, the file that it leads to and the set of what it touched.
-- Assumes nothing.
use Rattle.std.specs.Prelude.{◌≡◌, ℕ, ◌%◌, ◌^◌, true, false, List, length, ◌==◌}
use Rattle.file.specs.declared.registers.File.{File}
use Rattle.trace.specs.Records.{items, item_count}
use Rattle.touched.specs.declared.set.Touched.{Touched}
use Rattle.touched.specs.Noted.{noted_all}
use Rattle.touched.specs.Things.{nothing}
use Rattle.noting.specs.Noting.{run_reaches}
use Rattle.replaying.specs.Replay.{after_part}
use Rattle.shell.specs.declared.following.Onward.{Onward}
use Rattle.shell.specs.declared.reading.Filled.{Filled}

-- the set after a part of a trace
unfoldable pub touched_after : Touched → File → List ℕ → Touched
touched_after s f part = noted_all (run_reaches f (items (item_count part) part)) s

-- one turn, a function of what was read
pub record Gone (before : Onward) (filled : Filled) (part : List ℕ) (r : Onward) : Type 0 where
  pub file : r.file ≡ after_part before.file part
  pub touched : r.touched ≡ touched_after before.touched before.file part
  pub more : r.more ≡ (length part == 8192)
  pub read : r.read ≡ filled

-- where a second trace has led to: 'the set of exactly those .. that an access .. has stored into .. or moved since a saved file was taken'. As many bytes
-- were read as the trace has
pub record Followed (saved : File) (r : Onward) : Type 0 where
  pub trace : List ℕ
  pub file : r.file ≡ after_part saved trace
  pub touched : r.touched ≡ touched_after nothing saved trace
  pub all : r.read.all ≡ length trace % 2 ^ 64
  pub whole : r.more ≡ true → length trace % 8 ≡ 0

-- how it ends: there is no more to read, and where its last read didn't fail it has led somewhere
pub record Ended (saved : File) (r : Onward) : Type 0 where
  pub ended : r.more ≡ false
  pub led : r.read.failed ≡ false → Followed saved r
