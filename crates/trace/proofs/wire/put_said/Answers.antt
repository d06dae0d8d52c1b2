-- `put_said` meets its contract: eight stores, one after the other. Assumes nothing.
use native.Mathlib.Numerals.{towards_suc}
use native.Mathlib.Omega.{arith}
use Prim.Native.Nat.{◌/◌, ◌%◌}
use lib.ListN.{length-set}
use lib.Seq.{sets-eq}
use Rattle.trace.specs.Records.{reply_bytes}
use Rattle.trace.proofs.wire.put_said.Goals as goal

pub bounds-replies-at-2 : goal.bounds-replies-at-2
bounds-replies-at-2 c = simp length-set (omega (arith, c.requires))

pub bounds-replies-at-3 : goal.bounds-replies-at-3
bounds-replies-at-3 c = simp length-set (omega (arith, c.requires))

pub bounds-replies-at-4 : goal.bounds-replies-at-4
bounds-replies-at-4 c = simp length-set (omega (arith, c.requires))

pub bounds-replies-at-5 : goal.bounds-replies-at-5
bounds-replies-at-5 c = simp length-set (omega (arith, c.requires))

pub bounds-replies-at-6 : goal.bounds-replies-at-6
bounds-replies-at-6 c = simp length-set (omega (arith, c.requires))

pub bounds-replies-at-7 : goal.bounds-replies-at-7
bounds-replies-at-7 c = simp length-set (omega (arith, c.requires))

pub bounds-replies-at-8 : goal.bounds-replies-at-8
bounds-replies-at-8 c = simp length-set (omega (arith, c.requires))

pub shape_of-replies : goal.shape_of-replies
shape_of-replies c = simp length-set

pub returns : goal.returns
unfolding reply_bytes
returns c =
    simp towards_suc (simp towards_suc at (sets-eq (reply_bytes (record { code = c.args.code; kind = c.args.key % 256; address = c.args.key / 65536; value = c.args.value })) c.args.replies.now c.args.at c.requires))
