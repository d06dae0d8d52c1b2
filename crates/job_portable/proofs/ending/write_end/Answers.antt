-- `write_end` meets its contract: the bytes that the job keeps are put at a buffer's start, and stand there. Assumes nothing.
use Rattle.std.specs.Prelude.{ℕ, List, ◌≡◌, ◌≤◌, length, take, replicate}
use mathlib.Core.Path.{refl, ap, ◌∙◌}
use native.Mathlib.Omega.{arith}
use lib.Seq.{sets-eq, take_all, take-append-le}
use Rattle.text.specs.Lent.{Wrote}
use Rattle.job_portable.proofs.ending.write_end.Goals as goal

put-there : (text before after : List ℕ) (end : ℕ) → length text ≤ length before → Wrote before 0 text after end → take end after ≡ text
put-there text before after end h w =
    ap (take end) (w.bytes ∙ sets-eq text before 0 (omega (arith, h))) ∙ take-append-le end text _ (omega (arith, w.place))
    ∙ take_all end text (omega (arith, w.place))

pub returns : goal.returns
returns c =
    let wide : length {A = ℕ} (replicate 29 0) ≡ 29 = refl in
    let kept = c.text.result.now in
    rw (put-there kept _ _ _ (omega (arith, wide, c.text.ensures.most)) (c.put-end.ensures.stored (omega (arith, wide, c.text.ensures.most)))
    ∙ c.text.ensures.text) at c.list_end.ensures
