-- For a host in C: what a file says as a list of numbers, and a timing out of one.
-- Assumes nothing.
use Rattle.std.specs.Prelude.{ℕ, zero, suc, min, cond, List, [], ◌∷◌, ℤ, pos}
use Rattle.file.specs.declared.answer.Answer.{Answer}
use Rattle.file.specs.declared.effect.Reach.{Reach}
use Rattle.file.specs.Answers.{code_of, refused}
use Rattle.std.specs.Result.{result_unwrap_or}
use Rattle.file.specs.declared.effect.Effect.TheVariants.{Nothing}
use Rattle.file.specs.Effects.{reach_of}
use Rattle.access.specs.declared.record.Record.{Record}
use Rattle.access.specs.Access.{read_reach, answer_with}
use Rattle.geometry.specs.declared.Capture.{Capture}
use Rattle.geometry.specs.declared.Cursor.{Cursor}
use Rattle.geometry.specs.declared.Window.{Window}
use Rattle.geometry.specs.Geometry.{read_geometry}
use Rattle.timing.specs.declared.Timing.{Timing}
use Rattle.timing.specs.Timing.{timing_of, numbers_of, read_timing}
use Rattle.image.specs.Bytes.{flag_byte}
use Rattle.image.specs.Parts.{fits_in, held_in}

-- a code, and a lent list as it is left
pub record Listed (A : Type 0) : Type 0 where
  pub code : ℕ
  pub numbers : List A

-- what a reader of a file leaves: the numbers that it read, or with a refusal the list as it was; a rest that is no file's is refused with 12
unfoldable pub shown_by : {A : Type 0} → List ℕ → Answer → List A → List A → Listed A
shown_by rest answer numbers before =
    cond (fits_in rest) (record { code = code_of answer; numbers = cond (refused answer) before numbers }) (record { code = 12; numbers = before })

-- flags are 0 or 1; the cursor: enabled, left, top, width, height, address; left and top are signed
unfoldable pub cursor_numbers : Cursor → List ℤ
cursor_numbers c = pos (flag_byte c.enabled) ∷ c.left.0 ∷ c.top.0 ∷ pos c.width.0 ∷ pos c.height.0 ∷ pos c.address ∷ []

-- window 2: enabled, video, left, top, right, bottom, empty, fault, start, stop
unfoldable pub window_numbers : Window → List ℕ
window_numbers w =
    flag_byte w.enabled
    ∷ flag_byte w.video
    ∷ w.left.0
    ∷ w.top.0
    ∷ w.right.0
    ∷ w.bottom.0
    ∷ flag_byte w.empty
    ∷ flag_byte w.fault
    ∷ w.start.0
    ∷ w.stop.0
    ∷ []

-- the capture window: start and stop across, start and stop down
unfoldable pub capture_numbers : Capture → List ℕ
capture_numbers c = c.xstart.0 ∷ c.xstop.0 ∷ c.ystart.0 ∷ c.ystop.0 ∷ []

-- a reach: the register and its bits; pointer, toggle, marks, line; palette, bank and the entry of either
unfoldable pub reach_numbers : Reach → List ℕ
reach_numbers r =
    r.register
    ∷ r.bits
    ∷ flag_byte r.pointer
    ∷ flag_byte r.toggle
    ∷ flag_byte r.marks
    ∷ flag_byte r.line
    ∷ flag_byte r.palette
    ∷ flag_byte r.bank
    ∷ r.entry
    ∷ []

-- what the readers leave in a lent list
unfoldable pub timing_read : List ℕ → List ℕ → List ℕ → Listed ℕ
timing_read registers rest before = shown_by rest (read_timing (held_in registers rest)).answer (numbers_of (read_timing (held_in registers rest)).timing) before

unfoldable pub cursor_read : List ℕ → List ℕ → List ℤ → Listed ℤ
cursor_read registers rest before = shown_by rest (read_geometry (held_in registers rest)).answer (cursor_numbers (read_geometry (held_in registers rest)).cursor) before

unfoldable pub window_read : List ℕ → List ℕ → List ℕ → Listed ℕ
window_read registers rest before = shown_by rest (read_geometry (held_in registers rest)).answer (window_numbers (read_geometry (held_in registers rest)).window) before

unfoldable pub capture_read : List ℕ → List ℕ → List ℕ → Listed ℕ
capture_read registers rest before = shown_by rest (read_geometry (held_in registers rest)).answer (capture_numbers (read_geometry (held_in registers rest)).capture) before

unfoldable pub reach_told : List ℕ → List ℕ → Record → List ℕ → Listed ℕ
reach_told registers rest asked before = shown_by rest (answer_with (read_reach (held_in registers rest) asked)) (reach_numbers (result_unwrap_or (read_reach (held_in registers rest) asked) (reach_of Nothing))) before

-- a number in 16 bits: what is more counts as the largest, which is in no range of 01's but the screen start's
unfoldable pub clipped : ℕ → ℕ
clipped n = min n 65535

-- the first numbers of a list so
unfoldable pub clipped_first : ℕ → List ℕ → List ℕ
clipped_first zero ns = ns
clipped_first (suc k) [] = []
clipped_first (suc k) (n ∷ ns) = clipped n ∷ clipped_first k ns

-- the timing of fifteen numbers as the library's structs hold it: all but the screen start have 16 bits
unfoldable pub timing_clipped : List ℕ → Timing
timing_clipped numbers = timing_of (clipped_first 14 (numbers_of (timing_of numbers)))
