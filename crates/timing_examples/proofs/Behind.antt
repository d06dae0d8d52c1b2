-- The place behind a text lies in the buffer that holds it. Assumes nothing.
use Prim.Native.Nat.{ℕ, ◌≤◌}
use mathlib.Core.List.{List}
use mathlib.Core.Path.{◌≡◌}
use native.Mathlib.Omega.{arith}
use lib.ListN.{length, length-append, length-take, take}
use Rattle.bits.proofs.Test.{by-test}
use Rattle.file.specs.declared.answer.Answer.{Answer}
use Rattle.file.specs.Answers.{refused}
use Rattle.text.specs.declared.placed.Placed.{Placed}
use Rattle.text.specs.Lent.{Lined, behind_by, placed_by}

pub behind-within : {answer : Answer} {text before after : List ℕ} {r : Placed} → Lined answer 0 text before after r → r.end ≤ length after
unfolding behind_by placed_by
behind-within {answer} {text} {before} l =
    rw (l.ended, l.bytes) (by-test (refused answer) (λ e. rw e (omega arith)) (λ e. rw (e, length-append) (omega arith)))

pub all-taken : (l : List ℕ) (n : ℕ) → n ≤ length l → n ≡ length (take n l)
all-taken l n h = rw (length-take) (omega (arith, h))
