-- 01, 'A run over a lent trace fills whole 8-byte places of a reply buffer until records or places end.'
-- Assumes nothing.
use Rattle.std.specs.Prelude.{ℕ, ◌*◌, ◌/◌, min, cond, ◌≡◌, List, [], ◌∷◌, ◌++◌, length, take, drop}
use Rattle.file.specs.declared.answer.Answer.{Answer}
use Rattle.file.specs.declared.answer.Answer.TheVariants.{Done, NotSound}
use Rattle.file.specs.declared.registers.File.{File}
use Rattle.file.specs.Sound.{sound}
use Rattle.access.specs.declared.record.Item.{Item}
use Rattle.access.specs.Access.{access_item, record_in, reply_to}
use Rattle.trace.specs.declared.replying.Replied.{Replied}
use Rattle.trace.specs.declared.running.Ran.{Ran}
use Rattle.trace.specs.Records.{item_of, items, item_count, reply_bytes}

-- the file after the items of a list
unfoldable pub file_after : File → List Item → File
file_after f [] = f
file_after f (i ∷ is) = file_after (access_item f i).file is

-- their answers
unfoldable pub answers : File → List Item → List Answer
answers f [] = []
answers f (i ∷ is) = (access_item f i).answer ∷ answers (access_item f i).file is

-- their replies, as bytes
unfoldable pub replies : File → List Item → List ℕ
replies f [] = []
replies f (i ∷ is) = reply_bytes (reply_to (record_in i) (access_item f i).answer) ++ replies (access_item f i).file is

-- one access as bytes: the record of the first 8, or a fragment, and its reply
unfoldable pub access_bytes : File → List ℕ → Replied
access_bytes f bytes =
    let done = access_item f (item_of (take 8 bytes)) in
    record { file = done.file; reply = reply_bytes done.reply }

-- what a run leaves: its answer, the new file, the count, the reply buffer, and the part of the trace not yet read
pub record RunLeft : Type 0 where
  pub answer : Answer
  pub file : File
  pub count : ℕ
  pub buffer : List ℕ
  pub rest : List ℕ

-- 'until records or places end'
unfoldable pub run_count : List ℕ → List ℕ → ℕ
run_count trace buffer = min (item_count trace) (length buffer / 8)

unfoldable pub ran : ℕ → File → List ℕ → List ℕ → RunLeft
ran count f trace buffer =
    record {
      answer = Done 0;
      file = file_after f (items count trace);
      count = count;
      buffer = replies f (items count trace) ++ drop (8 * count) buffer;
      rest = drop (8 * count) trace;
    }

-- 'An unsound file: code 12, count 0, the whole trace handed back.'
unfoldable pub run : File → List ℕ → List ℕ → RunLeft
run f trace buffer =
    cond (sound f) (ran (run_count trace buffer) f trace buffer)
    (record { answer = NotSound; file = f; count = 0; buffer = buffer; rest = trace })

-- a run over what another leaves, and the bytes that a run fills
unfoldable pub resumed : RunLeft → List ℕ → RunLeft
resumed r buffer = run r.file r.rest buffer

unfoldable pub filled : RunLeft → List ℕ
filled r = take (8 * r.count) r.buffer

-- what the code of a run hands back and leaves in a reply buffer, by what the buffer holds before and after
pub record RunKept (f : File) (trace before after : List ℕ) (r : Ran) : Type 0 where
  pub answered : r.answer ≡ (run f trace before).answer
  pub ended : r.file ≡ (run f trace before).file
  pub counted : r.count ≡ (run f trace before).count
  pub replied : after ≡ (run f trace before).buffer
