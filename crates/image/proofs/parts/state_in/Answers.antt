-- `state_in` meets its contract. Assumes nothing.
use Prim.Native.Nat.{◌+◌, ◌*◌}
use mathlib.Core.Path.{ap, ◌∙◌}
use Rattle.image.specs.Bytes.{is_set}
use Rattle.image.specs.Parts.{chip_in, state_in}
use Rattle.image.proofs.parts.state_in.Goals as goal

pub returns : goal.returns
unfolding state_in
returns c =
    λ i. record {
      line = (c.two.ensures ∙ (λ j. c.byte_at-6.ensures j + 256 * c.byte_at-7.ensures j)) i;
      pointer =
          record {
            address = c.byte_at.ensures i;
            reading = (c.is_set.ensures ∙ ap is_set c.byte_at-2.ensures) i;
            next = c.byte_at-3.ensures i;
            red = c.byte_at-4.ensures i;
            green = c.byte_at-5.ensures i;
          };
      marks = c.byte_at-8.ensures i;
      toggle = (c.is_set-2.ensures ∙ ap is_set c.byte_at-9.ensures) i;
      chip = (c.chip_in.ensures ∙ ap chip_in c.byte_at-10.ensures) i;
    }
