-- The rows that are named, one behind the other. Assumes nothing.
use Prim.Native.Nat.{ℕ, suc, ◌+◌, ◌%◌, ◌≤◌, ◌<◌}
use mathlib.Core.Path.{◌≡◌, sym, ap, ◌∙◌, subst}
use mathlib.Core.Bool.{Bool, true, false}
use mathlib.Core.List.{List, [], ◌∷◌, ◌++◌, map}
use native.Mathlib.Numerals.{add-one}
use lib.ListN.{length, get_or, drop, drop_of_length-le}
use lib.Seq.{drop-cons}
use Rattle.bits.proofs.Test.{by-test}
use Rattle.access.specs.declared.record.Record.{Record}
use Rattle.plan.specs.Appended.{Appended}
use Rattle.plan.specs.EngineRows.{road_of}
use Rattle.roads.specs.Roads.{Road}
use Rattle.roads.specs.RoadRecords.{along}
use Rattle.roads.proofs.RegisterStageRuns.{along-behind}
use Rattle.short_roads.specs.ShortPlan.{named_roads}
use Rattle.plan.proofs.Appending.{Left, none_left}

-- the records of a road that may be named, and of those behind it
named-behind : (w : List ℕ) (named : List Bool) (road : Road) (roads : List Road)
    → along w (named_roads named (road ∷ [])) ++ along w (named_roads named roads) ≡ along w (named_roads named (road ∷ roads))
unfolding named_roads along
named-behind w named road roads =
    by-test (get_or named road.register false) (λ e. rw e (along-behind w road (named_roads named roads))) (λ e. rw e)

module _ {before : List ℕ} {at : ℕ} {all : List Record} {there : List ℕ} {here : ℕ} (w : List ℕ) (named : List Bool) (rows : List ℕ) (i : ℕ) where
  -- what is left of some rows: the next one's records, and the others'
  pub next-named-left : i < length rows → Left before at all there here (along w (named_roads named (map road_of (drop i rows))))
      → Left before at all there here (along w (named_roads named (road_of (get_or rows i 0) ∷ [])) ++ along w (named_roads named (map road_of (drop (i + 1) rows))))
  next-named-left h =
      rw add-one
      (subst (λ (rs : List Record). Left before at all there here rs)
      (ap (λ (rs : List ℕ). along w (named_roads named (map road_of rs))) (drop-cons rows i 0 h)
      ∙ sym (named-behind w named (road_of (get_or rows i 0)) (map road_of (drop (suc i) rows)))))

  -- no row is left
  pub no-named-left : length rows ≤ i → Left before at all there here (along w (named_roads named (map road_of (drop i rows)))) → Appended before at all there here
  unfolding along named_roads
  no-named-left h l = none_left (rw (drop_of_length-le rows {i = i} h) at l)

-- a row's register, by whether it is named
pub named-one : (w : List ℕ) (named : List Bool) (row : ℕ) → get_or named (row % 0x100) false ≡ true
    → along w (named_roads named (road_of row ∷ [])) ≡ along w (road_of row ∷ [])
unfolding named_roads road_of
named-one w named row e = rw e

pub named_none : (w : List ℕ) (named : List Bool) (row : ℕ) → get_or named (row % 0x100) false ≡ false → along w (named_roads named (road_of row ∷ [])) ≡ []
unfolding named_roads road_of along
named_none w named row e = rw e
