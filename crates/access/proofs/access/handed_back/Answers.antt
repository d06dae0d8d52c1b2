-- `handed_back` meets its contract. Assumes nothing.
use Rattle.access.specs.Access.{handed, reply_to}
use Rattle.access.proofs.access.handed_back.Goals as goal

pub returns : goal.returns
unfolding handed reply_to
returns c =
    let start = c.args in
    λ i.
    record {
      file = start.file;
      answer = start.answer;
      reply = record { code = c.code.ensures i; kind = start.asked.kind; address = start.asked.address; value = c.value.ensures i };
    }
