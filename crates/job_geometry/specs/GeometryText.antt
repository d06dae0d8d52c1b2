-- 01, 'Cursor and window 2', and 02, 6/13: the geometry of a file as three lines of text.
-- Assumes nothing.
use Rattle.std.specs.Prelude.{ℕ, Bool, cond, List, [], ◌∷◌, ◌++◌, leb, ℤ, nat_abs, pos, length}
use Rattle.std.specs.Int.Signed.{lt_z}
use Rattle.file.specs.declared.answer.Answer.{Answer}
use Rattle.file.specs.declared.answer.Answer.TheVariants.{Done, ShortBuffer}
use Rattle.geometry.specs.declared.Capture.{Capture}
use Rattle.geometry.specs.declared.Cursor.{Cursor}
use Rattle.geometry.specs.declared.Geometry.{Geometry}
use Rattle.geometry.specs.declared.Window.{Window}
use Rattle.text.specs.Text.{capture_line, cursor_line, window_2_line}

-- a mark as 0 or 1
unfoldable pub as_number : Bool → ℕ
as_number mark = cond mark 1 0

-- a number that has a minus before it
unfoldable pub below_zero : ℤ → Bool
below_zero n = lt_z n (pos 0)

unfoldable pub cursor_text : Cursor → List ℕ
cursor_text c =
    cursor_line (below_zero c.left.0) (below_zero c.top.0)
    (as_number c.enabled ∷ nat_abs c.left.0 ∷ nat_abs c.top.0 ∷ c.width.0 ∷ c.height.0 ∷ c.address ∷ [])

unfoldable pub window_text : Window → List ℕ
window_text w =
    window_2_line
    (as_number w.enabled
    ∷ as_number w.video
    ∷ w.left.0
    ∷ w.top.0
    ∷ w.right.0
    ∷ w.bottom.0
    ∷ as_number w.empty
    ∷ as_number w.fault
    ∷ w.start.0
    ∷ w.stop.0
    ∷ [])

unfoldable pub capture_text : Capture → List ℕ
capture_text c = capture_line (c.xstart.0 ∷ c.xstop.0 ∷ c.ystart.0 ∷ c.ystop.0 ∷ [])

-- the three lines, one after the other
unfoldable pub geometry_text : Geometry → List ℕ
geometry_text g = cursor_text g.cursor ++ window_text g.window ++ capture_text g.capture

-- room for the three lines of every file
unfoldable pub geometry_most : ℕ
geometry_most = 256

-- 11 where a buffer has less
unfoldable pub geometry_answer : List ℕ → Answer
geometry_answer buffer = cond (leb geometry_most (length buffer)) (Done 0) ShortBuffer
