-- `access_bytes` meets its contract. Assumes nothing.
use mathlib.Core.Path.{ap, ◌∙◌}
use Rattle.access.specs.declared.access.Accessed.{Accessed}
use Rattle.access.specs.Access.{access_item}
use Rattle.trace.specs.Records.{reply_bytes}
use Rattle.trace.specs.Run.{access_bytes}
use Rattle.trace.proofs.replying.access_bytes.Goals as goal

pub returns : goal.returns
unfolding access_bytes
returns c =
    let done = c.access-done.ensures ∙ ap (access_item _) c.item_of-item.ensures in
    λ i. record { file = (done i).file; reply = (c.reply_bytes.ensures ∙ ap (λ (x : Accessed). reply_bytes x.reply) done) i }
