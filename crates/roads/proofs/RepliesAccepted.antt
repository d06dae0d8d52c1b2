-- The replies of a run whose records are all accepted: each has code 0. Assumes nothing.
use Prim.Native.Nat.{ℕ, zero, suc, ◌*◌, ◌<◌}
use mathlib.Core.Path.{◌≡◌}
use mathlib.Core.List.{List, [], ◌∷◌, ◌++◌}
use native.Mathlib.Omega.{arith}
use lib.Dec.{T, eqb→eq}
use lib.ListN.{get_or, length}
use Rattle.bits.proofs.Test.{left, right}
use Rattle.file.specs.declared.registers.File.{File}
use Rattle.file.specs.Answers.{code_of}
use Rattle.access.specs.declared.record.Item.{Item}
use Rattle.access.specs.Access.{access_item, reply_to}
use Rattle.trace.specs.Records.{reply_bytes}
use Rattle.trace.specs.Run.{answers, replies}
use Rattle.roads.specs.Restores.{accepted, all_accepted}

-- the first byte of each reply, whatever stands behind the replies
pub codes-zero : (is : List Item) (f : File) (rest : List ℕ) → T (all_accepted (answers f is)) → (k : ℕ) → k < length is
    → get_or (replies f is ++ rest) (8 * k) 0 ≡ 0
unfolding all_accepted accepted answers replies reply_bytes reply_to
codes-zero [] f rest t k h = absurd (omega arith)
codes-zero (i ∷ is) f rest t zero h =
    eqb→eq (code_of (access_item f i).answer) 0 (left (accepted (access_item f i).answer) (all_accepted (answers (access_item f i).file is)) t)
codes-zero (i ∷ is) f rest t (suc k) h =
    let next : 8 * suc k ≡ suc (suc (suc (suc (suc (suc (suc (suc (8 * k)))))))) = omega arith in
    rw next
    (codes-zero is (access_item f i).file rest
    (right (accepted (access_item f i).answer) (all_accepted (answers (access_item f i).file is)) t) k (omega arith))
