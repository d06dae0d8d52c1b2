-- `kept::keep` meets its contract: what has room is copied. Assumes nothing.
use Prim.Native.Nat.{ℕ, ◌+◌, ◌-◌, ◌≤◌}
use mathlib.Core.List.{List, append_assoc}
use mathlib.Core.Path.{◌≡◌, sym, ◌∙◌}
use native.Mathlib.Omega.{arith}
use borrow.Rule.Slice.PartMut.{put_mid}
use lib.ListN.{length, take, drop}
use lib.Seq.{drop-drop, length-take-le, sets, sets-eq}
use Rattle.mode_lines.proofs.Laying.{kept-stored}
use Rattle.mode_lines.proofs.kept.keep.Goals as goal

-- bytes copied into the place of as many
copied : (l : List ℕ) (at k : ℕ) (part bytes : List ℕ) → at + k ≤ length l → k ≡ length bytes → part ≡ bytes → put_mid at k l part ≡ sets l at bytes
copied l at k part bytes room e same =
    rw (same, e, drop-drop (length bytes) at l)
    (sym (append_assoc (take at l) bytes (drop (at + length bytes) l)) ∙ sym (sets-eq bytes l at (omega (arith, room, e))))

pub returns-clause-kept : goal.returns-clause-kept
returns-clause-kept c =
    let at = c.min-at.result in
    let size = c.min-size.result in
    let args = c.args in
    let long = length-take-le size args.bytes.now (omega (arith, c.min-size.ensures)) in
    kept-stored args.buffer.now args.count args.bytes.now at size c.min-at.ensures c.min-size.ensures
    (copied args.buffer.now at (at + size - at) c.copy_from_slice.new.self (take size args.bytes.now)
    (omega (arith, c.min-at.ensures, c.min-size.ensures)) (omega (arith, long)) c.copy_from_slice.ensures.after)
