use Rattle.std.proofs.Common.{◌≡◌, ℕ, ◌+◌, ◌-◌, ◌≤◌, List, ◌++◌, rules, length, take, drop, sym, ap, ◌∙◌, subst, le_refl, drop_at, length-take-le}
use Rattle.std.proofs.lemmas.Slice.{take-put_mid_below}
use Rattle.std.specs.Io.KnownBytes.{Consumes}
use Rattle.std.proofs.KnownBytes.{Consumes-trans}
use borrow.Rule.Slice.PartMut.{put_mid, post_of}
use lib.Seq.{take-add, take-append-le}
use Rattle.program_input.proofs.read_full.Goals as goal

-- the first bytes of a buffer, and behind them those that a read put there
filled : (a n : ℕ) (xs ys : List ℕ) → a ≤ length xs → n ≤ length ys → take a xs ++ take n ys ≡ take (a + n) (put_mid a (length xs - a) xs ys)
filled a n xs ys within fits =
    let new = put_mid a (length xs - a) xs ys in
    let after = post_of a (length xs - a) xs in
    ap (λ l. take a xs ++ l) (sym (take-append-le n ys after fits) ∙ ap (take n) (sym (drop_at (take a xs) (ys ++ after) a (length-take-le a xs within))))
    ∙ ap (λ l. l ++ take n (drop a new)) (sym (take-put_mid_below _ _ _ _ _ (le_refl _) within))
    ∙ sym (take-add a n new)

pub loop-at-preserved : goal.loop-at-preserved
loop-at-preserved g c =
    let read = c.in_ok-count.ensures in
    (search rules, subst (Consumes _ _) (filled c.loop-at.at c.in_ok-count.count c.loop-at.buffer c.read.new.buf c.loop-at.invariant.0 read.bound.0) (Consumes-trans _ _ _ _ _ c.loop-at.invariant.1 read.bytes.0))
