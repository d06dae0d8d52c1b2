-- `sedgecoil_save_parts` meets its contract. Assumes nothing.
use mathlib.Core.Path.{ap, ◌∙◌}
use Rattle.file.specs.Answers.{code_of}
use Rattle.image.specs.Bytes.{is_set}
use Rattle.host.proofs.sedgecoil_save_parts.Goals as goal

pub returns : goal.returns
unfolding is_set
returns c = record {
  value = c.code.ensures ∙ ap code_of c.save.ensures.value;
  buffer_after = c.save.ensures.buffer_after;
}
