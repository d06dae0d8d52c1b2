-- What the contract of `read_geometry` tells of what it hands back, for every file. Assumes nothing.
use mathlib.Core.Path.{◌≡◌, sym, subst}
use mathlib.Core.List.{[], ◌∷◌}
use lib.Dec.{T}
use Rattle.bits.proofs.Test.{chosen, chosen_by, passes}
use Rattle.file.specs.declared.registers.File.{File}
use Rattle.file.specs.Answers.{code_of, one_of}
use Rattle.file.specs.Sound.{sound}
use Rattle.geometry.specs.declared.Geometry.{Geometry}
use Rattle.geometry.specs.Geometry.{are_both_below, capture_in_range, edge_in_range, cursor_in_range, no_capture, no_cursor, read_geometry}
use Rattle.geometry.proofs.CaptureRange.{capture-ranged}
use Rattle.geometry.proofs.CursorRange.{cursor-ranged}

module _ (f : File) (r : Geometry) (met : r ≡ read_geometry f) where
  -- its code is 0 or 12
  pub geometry-codes : T (one_of (0 ∷ 12 ∷ []) r.answer)
  unfolding one_of code_of read_geometry
  geometry-codes =
      subst (λ (x : Geometry). T (one_of (0 ∷ 12 ∷ []) x.answer)) (sym met)
      (chosen (λ (x : Geometry). one_of (0 ∷ 12 ∷ []) x.answer) (sound f) _ _ tt tt)

  -- the cursor lies in 01's range; that of an unsound file, at 0, too
  pub cursor-in-range : T (cursor_in_range r.cursor)
  unfolding read_geometry no_cursor edge_in_range cursor_in_range
  cursor-in-range =
      subst (λ (x : Geometry). T (cursor_in_range x.cursor)) (sym met)
      (chosen_by (λ (x : Geometry). cursor_in_range x.cursor) (sound f) _ _ (λ s. cursor-ranged f (passes (sound f) s)) tt)

  -- and so does the capture window in 02's
  pub capture-in-range : T (capture_in_range r.capture)
  unfolding read_geometry no_capture are_both_below capture_in_range
  capture-in-range =
      subst (λ (x : Geometry). T (capture_in_range x.capture)) (sym met)
      (chosen_by (λ (x : Geometry). capture_in_range x.capture) (sound f) _ _ (λ s. capture-ranged f (passes (sound f) s)) tt)
