-- A row's number and its road: what selects its index, and the rows one behind the other. Assumes nothing.
use Prim.Native.Nat.{ℕ, suc, ◌+◌, ◌≤◌, ◌<◌}
use mathlib.Core.Path.{◌≡◌, sym, ap, ◌∙◌, subst}
use mathlib.Core.Bool.{cond}
use mathlib.Core.List.{List, [], ◌∷◌, ◌++◌, map}
use native.Mathlib.Numerals.{add-one}
use borrow.Author.Tests.{eqb-true}
use lib.Dec.{eqb}
use lib.ListN.{length, get_or, drop, drop_of_length-le}
use lib.Seq.{drop-cons}
use Rattle.bits.proofs.Test.{by-test}
use Rattle.access.specs.declared.record.Record.{Record}
use Rattle.plan.specs.Appended.{Appended}
use Rattle.plan.specs.EngineRows.{index_port, index_by, road_of}
use Rattle.roads.specs.Plan.{port_write}
use Rattle.roads.specs.RoadRecords.{selecting, along}
use Rattle.roads.proofs.RegisterStageRuns.{along-behind}
use Rattle.plan.proofs.Appending.{Left, none_left}

-- one record selects an index, by the port
pub selecting-by : (port n : ℕ) → selecting (index_by port n) ≡ cond (index_port port) (port_write port n ∷ []) []
unfolding selecting index_by index_port
selecting-by port n =
    by-test (eqb port 0x3C4) (λ e. rw (e, eqb-true port 0x3C4 e))
    (λ e. rw e (by-test (eqb port 0x3CE) (λ f. rw (f, eqb-true port 0x3CE f))
    (λ f. rw f (by-test (eqb port 0x3C0) (λ g. rw (g, eqb-true port 0x3C0 g)) (λ g. rw g)))))

module _ {before : List ℕ} {at : ℕ} {all : List Record} {there : List ℕ} {here : ℕ} (w rows : List ℕ) (i : ℕ) where
  -- what is left of some rows: the next one's records, and the others'
  pub next-left : i < length rows → Left before at all there here (along w (map road_of (drop i rows)))
      → Left before at all there here (along w (road_of (get_or rows i 0) ∷ []) ++ along w (map road_of (drop (i + 1) rows)))
  next-left h =
      rw add-one
      (subst (λ (rs : List Record). Left before at all there here rs)
      (ap (λ (rs : List ℕ). along w (map road_of rs)) (drop-cons rows i 0 h) ∙ sym (along-behind w (road_of (get_or rows i 0)) (map road_of (drop (suc i) rows)))))

  -- no row is left
  pub no-row-left : length rows ≤ i → Left before at all there here (along w (map road_of (drop i rows))) → Appended before at all there here
  unfolding along
  no-row-left h l = none_left (rw (drop_of_length-le rows {i = i} h) at l)
