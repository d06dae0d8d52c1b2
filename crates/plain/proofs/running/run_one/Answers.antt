-- `run_one` meets its contract. Assumes nothing.
use Prim.Native.Nat.{ℕ, ◌+◌, ◌*◌}
use mathlib.Core.Path.{◌≡◌, ap, ap₂, ◌∙◌}
use mathlib.Core.List.{List, ◌++◌}
use lib.ListN.{take, drop}
use Rattle.access.specs.declared.record.Record.{Record}
use Rattle.file.specs.declared.answer.Answer.{Answer}
use Rattle.access.specs.Access.{reply_to}
use Rattle.trace.specs.Records.{record_of, item_of, reply_bytes}
use Rattle.trace.proofs.RecordBytes.{part_left}
use Rattle.plain.specs.declared.told.Told.{Told}
use Rattle.plain.specs.Told.{item_told}
use Rattle.plain.proofs.RunByItems.{record-in}
use Rattle.plain.proofs.running.run_one.Goals as goal

pub returns : goal.returns
unfolding item_told reply_to
returns c =
    let trace = c.args.trace.now in
    let at : ℕ = 8 * c.args.n in
    let item : c.item_of.result ≡ item_of (take 8 (drop at trace)) =
    c.item_of.ensures ∙ ap (λ (l : List ℕ). item_of (take 8 l)) (part_left trace at) in
    let told : c.access_item-told.result ≡ item_told c.args.whole (item_of (take 8 (drop at trace))) =
    c.access_item-told.ensures ∙ ap (item_told c.args.whole) item in
    let asked : c.record_of.result ≡ record_of (take 8 (drop at trace)) =
    c.record_of.ensures ∙ ap (λ (l : List ℕ). record_of (take 8 l)) (part_left trace at) in record {
      value = ap (λ (t : Told). t.file) told;
      replies_after = c.put_reply.ensures.replies_after c.requires.1
          ∙ (λ i. take at c.args.replies.now ++ reply_bytes (record { code = c.code.ensures i; kind = c.record_of.result.kind; address = c.record_of.result.address; value = c.value.ensures i }) ++ drop (at + 8) c.args.replies.now)
          ∙ ap₂ (λ (r : Record) (a : Answer). take at c.args.replies.now ++ reply_bytes (reply_to r a) ++ drop (at + 8) c.args.replies.now)
          (asked ∙ record-in (take 8 (drop at trace))) (ap (λ (t : Told). t.answer) told);
    }
