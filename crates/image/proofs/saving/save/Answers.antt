-- `save` meets its contract. Assumes nothing.
use mathlib.Core.Path.{sym, ◌∙◌}
use borrow.Author.Tests.{lt-ltb, le-ltb, not-true, not-false}
use Rattle.image.specs.Image.{image_count, save_answer, saved_in}
use Rattle.image.proofs.saving.save.Goals as goal

pub returns-then-not-is_file : goal.returns-then-not-is_file
unfolding save_answer saved_in
returns-then-not-is_file c = let e = sym c.is_file.ensures ∙ not-true _ c.if-not-is_file.true-raw in record {
  value = rw e;
  buffer_after = rw e;
}

pub returns-then-buffer-lt-IMAGE : goal.returns-then-buffer-lt-IMAGE
unfolding save_answer saved_in
returns-then-buffer-lt-IMAGE c =
    let e = sym c.is_file.ensures ∙ not-false _ c.if-not-is_file.false-raw in
    let f = lt-ltb _ image_count c.if-buffer-lt-IMAGE.true in record {
      value = rw (e, f);
      buffer_after = rw (e, f);
    }

pub returns : goal.returns
unfolding save_answer saved_in
returns c =
    let e = sym c.is_file.ensures ∙ not-false _ c.if-not-is_file.false-raw in
    let f = le-ltb _ image_count c.if-buffer-lt-IMAGE.false in record {
      value = rw (e, f);
      buffer_after = rw (e, f) c.put_image.ensures;
    }
