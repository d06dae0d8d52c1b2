-- `replay` meets its contract. Assumes nothing.
use Rattle.std.proofs.Common.{◌≡◌, ℕ, Bool, sym, ap, ◌∙◌, arith}
use Rattle.file.proofs.Soundness.{power_on-sound}
use Rattle.trace.specs.Records.{item_count}
use Rattle.replaying.specs.Replay.{records_fit, timing_most}
use Rattle.replaying.proofs.Whole.{lines-fit, not-replayed, replies-fit, whole-replayed}
use Rattle.replaying.proofs.replay.Goals as goal

-- what the test of room said of so many records
room_by : (count last replies lines : ℕ) {told said : Bool} (n : ℕ) → n ≡ count → told ≡ records_fit n last replies lines → told ≡ said
    → records_fit count last replies lines ≡ said
room_by count last replies lines n e t s = ap (λ (k : ℕ). records_fit k last replies lines) (sym e) ∙ sym t ∙ s

pub returns-then-not-records_fit : goal.returns-then-not-records_fit
unfolding timing_most
returns-then-not-records_fit c =
    let args = c.args in
    let all =
    not-replayed args.chip args.trace.now args.replies.now args.lines.now
    (room_by _ timing_most _ _ _ c.item_count-count.ensures c.records_fit.ensures c.if-not-records_fit.true) in
    record { lined = all.0; replies_after = all.1 }

pub returns : goal.returns
unfolding timing_most item_count
returns c =
    let args = c.args in
    let room = room_by _ timing_most _ _ _ c.item_count-count.ensures c.records_fit.ensures c.if-not-records_fit.false in
    let part = c.run_part-part in
    let parted =
    part.ensures.parted (rw c.power_on.ensures (power_on-sound args.chip)) (replies-fit args.chip args.trace.now args.replies.now args.lines.now room (omega arith))
    (λ _. lines-fit args.chip args.trace.now args.replies.now args.lines.now room (omega arith)) (omega arith) in
    let all =
    whole-replayed args.chip args.trace.now args.replies.now args.lines.now room (omega arith) part.result _ _ (rw c.power_on.ensures at parted)
    c.read_timing.result c.read_timing.ensures _ _ c.timing_line.ensures in
    record { lined = all.0; replies_after = all.1 }
