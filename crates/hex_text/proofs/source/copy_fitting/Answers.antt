-- `copy_fitting` meets its contract: what has room is copied. Assumes nothing.
use Prim.Native.Nat.{ℕ, ◌+◌, ◌-◌, ◌≤◌}
use mathlib.Core.List.{List, append_assoc}
use mathlib.Core.Path.{◌≡◌, sym, ◌∙◌}
use native.Mathlib.Omega.{arith}
use borrow.Rule.Slice.PartMut.{put_mid}
use lib.ListN.{length, take, drop}
use lib.Seq.{drop-drop, length-take-le, sets, sets-eq}
use Rattle.hex_text.specs.Promises.{fitting}
use Rattle.hex_text.proofs.source.copy_fitting.Goals as goal

-- bytes copied into the place of as many
copied : (l : List ℕ) (at k : ℕ) (part bytes : List ℕ) → at + k ≤ length l → k ≡ length bytes → part ≡ bytes → put_mid at k l part ≡ sets l at bytes
copied l at k part bytes room e same =
    rw (same, e, drop-drop (length bytes) at l)
    (sym (append_assoc (take at l) bytes (drop (at + length bytes) l)) ∙ sym (sets-eq bytes l at (omega (arith, room, e))))

pub returns : goal.returns
unfolding fitting
returns c =
    let args = c.args in
    let count = c.having_room-count.result in
    let fits = c.having_room-count.ensures in
    let long = length-take-le count args.bytes.now (omega (arith, fits)) in
    record {
      taken = fits;
      stored =
          copied args.buffer.now args.at (args.at + count - args.at) c.copy_from_slice.new.self (take count args.bytes.now)
          (omega (arith, fits, c.if-count-eq0.false)) (omega (arith, long)) c.copy_from_slice.ensures.after;
    }
