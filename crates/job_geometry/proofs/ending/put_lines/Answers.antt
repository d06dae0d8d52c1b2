-- `put_lines` meets its contract. Assumes nothing.
use native.Mathlib.Omega.{arith}
use lib.ListN.{length-append}
use Rattle.job_geometry.specs.GeometryText.{capture_text, cursor_text, geometry_most, geometry_text, window_text}
use Rattle.job_geometry.proofs.LinesPut.{three-put}
use Rattle.job_geometry.proofs.ending.put_lines.Goals as goal

pub returns : goal.returns
unfolding geometry_text geometry_most
returns c =
    let read = c.args.read in
    let a = c.put_cursor-at.ensures.cursor_len_bound in
    let b = c.put_window-at.ensures.window_len_bound in
    let d = c.put_capture.ensures.capture_len_bound in record {
      wrote = three-put (cursor_text read.cursor) (window_text read.window) (capture_text read.capture) _ _ _ _ _ _ _ (omega (arith, a, b, d, c.requires))
          c.put_cursor-at.ensures.lined c.put_window-at.ensures.lined c.put_capture.ensures.lined;
      read_len_bound = simp length-append (omega (arith, a, b, d));
    }
