-- What an access at a row answers and leaves, by 01's rules of one access (`Access`): for whatever bits the row stores.
-- Assumes nothing.
use Rattle.std.specs.Prelude.{ℕ, cond, ◌&&◌, eqb}
use Rattle.file.specs.declared.answer.Answer.{Answer}
use Rattle.file.specs.declared.effect.Effect.{Effect}
use Rattle.file.specs.declared.effect.Effect.TheVariants.{Nothing}
use Rattle.file.specs.declared.registers.File.{File}
use Rattle.file.specs.Answers.{code_of, refused}
use Rattle.file.specs.Effects.{apply}
use Rattle.file.specs.File.{crtc_locked}
use Rattle.file.specs.Names.{CR7}
use Rattle.places.specs.Profile.{Reading, Writing}
use Rattle.access.specs.declared.record.Item.{Item}
use Rattle.access.specs.declared.record.Record.{Record}
use Rattle.access.specs.Access.{answer, effect, access_item, locked_reach, pixel_write, answer_of_read, read_effect, write_answer, write_effect}
use Rattle.plain.specs.declared.told.Told.{Told}

-- 'Codes from 2 up leave the file as given'
unfoldable pub told : File → Answer → Effect → Told
unfolding refused code_of apply
told f a e = record { answer = a; file = apply (cond (refused a) Nothing e) f }

unfoldable pub told_of_read : File → Reading → Told
unfolding told answer_of_read read_effect
told_of_read f reading = told f (answer_of_read f reading) (read_effect f reading)

-- the bits that a write may change, where a row stores these: 'While CR11[7]=1 a CR7 write stores bit 4 only'
unfoldable pub row_reach : File → ℕ → ℕ → ℕ
unfolding locked_reach
row_reach f stored number = cond (crtc_locked f && eqb number CR7) locked_reach stored

unfoldable pub write_told : File → ℕ → Writing → ℕ → Told
unfolding told write_answer write_effect row_reach
write_told f stored writing value = told f (write_answer f writing) (write_effect (row_reach f stored) f writing value)

-- a pixel data write where the palette is up
unfoldable pub pixel_written : File → ℕ → File
unfolding apply pixel_write
pixel_written f byte = apply (pixel_write f byte) f

-- what an access answers and leaves, by 01's rules: of a whole record, and of what stands next in a trace
unfoldable pub access_told : File → Record → Told
access_told f r = record { answer = answer f r; file = apply (effect f r) f }

unfoldable pub item_told : File → Item → Told
item_told f i = record { answer = (access_item f i).answer; file = (access_item f i).file }
