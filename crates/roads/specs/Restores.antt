-- What demand 3 says of a plan: 'accepted means code 0', and the run ends in the wanted file, of which the line is no part (02, 10/13).
-- Assumes nothing.
use Rattle.std.specs.Prelude.{ℕ, ◌*◌, ◌^◌, ◌≤◌, ◌<◌, ◌≡◌, Bool, true, ◌&&◌, List, [], ◌∷◌, ◌++◌, map, T, eqb, ltb, length, drop}
use Rattle.file.specs.declared.answer.Answer.{Answer}
use Rattle.file.specs.declared.palette.Colour.{Colour}
use Rattle.file.specs.declared.registers.File.{File}
use Rattle.file.specs.Answers.{code_of}
use Rattle.file.specs.File.{Same}
use Rattle.file.specs.Sound.{sound}
use Rattle.access.specs.declared.record.Item.TheVariants.{Whole}
use Rattle.access.specs.declared.record.Record.{Record}
use Rattle.access.specs.Checks.{ordinary}
use Rattle.trace.specs.Records.{bytes_of}
use Rattle.trace.specs.Run.{file_after, answers}

-- 'accepted means code 0'
unfoldable pub accepted : Answer → Bool
accepted a = eqb (code_of a) 0

unfoldable pub all_accepted : List Answer → Bool
all_accepted [] = true
all_accepted (a ∷ as') = accepted a && all_accepted as'

-- from one file, every record is accepted and the run ends in another
pub record RunsInto (f : File) (records : List Record) (g : File) : Type 0 where
  pub all_done : T (all_accepted (answers f (map Whole records)))
  pub ends : file_after f (map Whole records) ≡ g

-- demand 3 of a run from one file: 'accepted at each access and ends in exactly the wanted file'; 02, 10/13: the line 'is outside demand 3's sameness'
pub record Restores (f : File) (records : List Record) (w : File) : Type 0 where
  pub all_done : T (all_accepted (answers f (map Whole records)))
  pub ends : Same (file_after f (map Whole records)) w

-- 'byte 0 kind .., byte 1 width in bytes .., bytes 2-3 address, bytes 4-7 value': each field fits its bytes
unfoldable pub in_bytes : Record → Bool
in_bytes r = ltb r.kind 256 && ltb r.width 256 && ltb r.address 65536 && ltb r.value (2 ^ 32)

unfoldable pub all_in_bytes : List Record → Bool
all_in_bytes [] = true
all_in_bytes (r ∷ rs) = in_bytes r && all_in_bytes rs

-- demand 3, 'ordinary accesses'; 02, 10/13, as settled: none lets lines pass
unfoldable pub all_ordinary : List Record → Bool
all_ordinary [] = true
all_ordinary (r ∷ rs) = ordinary r && all_ordinary rs

-- 'A trace is records of 8 bytes, no header'
unfoldable pub trace_of : List Record → List ℕ
trace_of [] = []
trace_of (r ∷ rs) = bytes_of r ++ trace_of rs

-- 'a bank of 16 cursor and border colours, else one of 256; three whole bytes each'
unfoldable pub bytes : List Colour → Bool
bytes [] = true
bytes (c ∷ cs) = ltb c.red 256 && ltb c.green 256 && ltb c.blue 256 && bytes cs

-- what a file is by its type, as far as a plan goes by it
pub record IsFile (f : File) : Type 0 where
  pub palette : length f.palette ≡ 256
  pub bank : length f.bank ≡ 16
  pub palette_bytes : T (bytes f.palette)
  pub bank_bytes : T (bytes f.bank)
  pub address : f.state.pointer.address < 256

-- demand 3: records that are a plan of a wanted file, 'ordinary accesses', by which all is restored, the marks too (02, 1/13), but the line, which is outside
-- its sameness (02, 10/13). 02, 6/13: it 'speaks of starts on the wanted file's chip'. Several are; `plan_records` is one
pub record Plans (w : File) (records : List Record) : Type 0 where
  pub room : length records ≤ 1024
  pub whole : T (all_in_bytes records)
  pub ordinary : T (all_ordinary records)
  pub restores : (f : File) → IsFile f → T (sound f) → f.state.chip ≡ w.state.chip → Restores f records w

-- 'the plan fills the buffer's first 8 bytes times the count, and the rest stays': what a buffer holds before and after
pub record PlanWritten (w : File) (before after : List ℕ) (count : ℕ) : Type 0 where
  pub records : List Record
  pub plans : Plans w records
  pub counted : count ≡ length records
  pub filled : after ≡ trace_of records ++ drop (8 * count) before
