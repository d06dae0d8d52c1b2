-- `served_of` meets its contract. Assumes nothing.
use Rattle.trace.specs.EngineServed.{served_of}
use Rattle.host.proofs.serving.served_of.Goals as goal

pub returns : goal.returns
unfolding served_of
returns c =
    λ i.
    record {
      code = c.code_in.ensures i;
      value = c.value_in.ensures i;
      state = c.args.state;
      pixel = c.is_pixel.ensures i;
      paints = c.paints.ensures i;
      bank = c.paints_bank.ensures i;
      colour = c.colour_in.ensures i;
    }
