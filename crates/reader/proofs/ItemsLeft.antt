-- A reader as an iterator: what stands next is the first of the items that are left, and the others are left behind it. Assumes nothing.
use Prim.Native.Nat.{ℕ, zero, suc, ◌<◌, ◌≤◌, ◌+◌, ◌/◌, ◌-◌}
use mathlib.Core.Path.{◌≡◌, refl, sym, ap, ◌∙◌, subst}
use mathlib.Core.List.{List, [], ◌∷◌}
use mathlib.Core.Bool.{true, false}
use native.Mathlib.Omega.{arith}
use lib.Dec.{ltb}
use lib.ListN.{length, take, drop, length-drop, drop_of_length-le}
use borrow.Author.Tests.{ltb-true, ltb-false}
use borrow.Author.Rules.{rules}
use Rattle.std.specs.Prelude.{Option, Some, None, ⊤}
use Rattle.std.specs.Iterator.{YieldsFirst, MakesProgress, item_count as count_of}
use Rattle.bits.proofs.Test.{by-test}
use Rattle.access.specs.declared.record.Item.{Item}
use Rattle.trace.specs.Records.{item_of, items, item_count}
use Rattle.reader.specs.declared.reader.Reader.{Reader}
use Rattle.reader.specs.Reader.{next_at, after_next, left_of}
use Rattle.reader.proofs.Positions.{left-past-next}

-- the items of what is left from a position on
abbrev From : List ℕ → List Item
From left = items (item_count left) left

one_more : (left : List ℕ) → 0 < length left → item_count left ≡ suc (item_count (drop 8 left))
unfolding item_count
one_more left h = omega (arith, h, length-drop 8 left)

first_left : (xs : List ℕ) (at : ℕ) → at < length xs → From (drop at xs) ≡ item_of (take 8 (drop at xs)) ∷ From (drop (after_next xs at) xs)
unfolding items
first_left xs at h =
    ap (λ (k : ℕ). items k (drop at xs)) (one_more (drop at xs) (omega (arith, h, length-drop at xs)))
    ∙ ap (λ (left : List ℕ). item_of (take 8 (drop at xs)) ∷ From left) (sym (left-past-next xs at))

none_left : (xs : List ℕ) (at : ℕ) → length xs ≤ at → From (drop at xs) ≡ []
unfolding items item_count
none_left xs at h = ap From (drop_of_length-le xs {i = at} h)

still : (xs : List ℕ) (at : ℕ) → length xs ≤ at → From (drop (after_next xs at) xs) ≡ []
unfolding after_next
still xs at h = none_left xs (after_next xs at) (omega (arith, h))

-- what a step gives, by what stands next and the position past it
pub yields_next : (reader : Reader) (next : Option Item) (after : Reader) → next ≡ next_at reader.trace.now reader.at
    → after.trace.now ≡ reader.trace.now → after.at ≡ after_next reader.trace.now reader.at → YieldsFirst left_of reader next after
unfolding next_at left_of
yields_next reader next after n t a =
    subst (λ (o : Option Item). YieldsFirst left_of reader o after) (sym n)
    (by-test (ltb reader.at (length reader.trace.now))
    (λ e. rw e (first_left reader.trace.now reader.at (ltb-true _ _ e) ∙ ap (λ (l : List Item). item_of (take 8 (drop reader.at reader.trace.now)) ∷ l) behind))
    (λ e. rw e (none_left reader.trace.now reader.at (ltb-false _ _ e), sym behind ∙ still reader.trace.now reader.at (ltb-false _ _ e))))
  where
    behind : From (drop (after_next reader.trace.now reader.at) reader.trace.now) ≡ left_of after
    behind = ap (λ (xs : List ℕ). From (drop (after_next reader.trace.now reader.at) xs)) (sym t) ∙ ap (λ (k : ℕ). From (drop k after.trace.now)) (sym a)

-- each item leaves one fewer
pub progress : (reader : Reader) (next : Option Item) (after : Reader) → YieldsFirst left_of reader next after
    → MakesProgress (λ _. ⊤) (count_of left_of) reader next after
progress reader None after y = record { on = λ f. tt; keeps = tt; rests = λ f. search rules }
progress reader (Some item) after y =
    record { on = λ f. (tt, search rules, omega (arith, ap length y)); keeps = tt; rests = λ f. tt }
