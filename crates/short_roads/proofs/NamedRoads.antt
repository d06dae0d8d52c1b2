-- The roads to the registers that a set names: what holds of every road holds of them, every register ends as wanted if those that are not named were so before, and how
-- many records they take. Assumes nothing.
use Prim.Native.Nat.{ℕ, zero, suc, ◌+◌, ◌*◌, ◌≤◌, ◌<◌}
use mathlib.Core.Path.{◌≡◌, refl, sym, ap₂, ◌∙◌, subst}
use mathlib.Core.Bool.{Bool, true, false, true≢false, not, ◌&&◌, ◌||◌}
use mathlib.Core.List.{List, [], ◌∷◌, ◌++◌, map}
use native.Mathlib.Omega.{arith}
use borrow.Author.Tests.{eqb-true, eqb-false}
use lib.Dec.{T, eqb}
use lib.ListN.{get_or, set, length, length-append}
use lib.Seq.{ext_get_or, get_or-set_other}
use Rattle.bits.proofs.Test.{left, right, both, by-test, passes, second, every_below, below}
use Rattle.file.specs.Names.{MISC, PCI04, CR11, CR1A, B0}
use Rattle.file.specs.Registers.{register_count, sequencer, crtc, graphics, attribute, pipeline, v_port}
use Rattle.places.specs.Lookup.{is_one_of}
use Rattle.places.specs.Places.{Index, any, sr, cr, gr, ar, index_due, data_due}
use Rattle.roads.specs.Roads.{Road, each_road, but, register_roads, index_roads, closing_roads}
use Rattle.roads.specs.RoadRecords.{write, selecting, along}
use Rattle.roads.specs.RegisterStage.{every_road, after_roads, moves, ends_wanted}
use Rattle.roads.proofs.RegisterStageRuns.{ends-wanted, after-length}
use Rattle.roads.proofs.PlanServes.{last_roads}
use Rattle.touched.specs.Things.{one, many}
use Rattle.short_roads.specs.ShortPlan.{named_roads}

-- ---- a part of a list of roads

pub named-every : (test : Road → Bool) (named : List Bool) (roads : List Road) → T (every_road test roads) → T (every_road test (named_roads named roads))
unfolding every_road named_roads
named-every test named [] t = tt
named-every test named (road ∷ roads) t =
    let rest = named-every test named roads (right (test road) (every_road test roads) t) in
    by-test (get_or named road.register false)
    (λ e. rw e (both (test road) (every_road test (named_roads named roads)) (left (test road) (every_road test roads) t) rest)) (λ e. rw e rest)

-- ---- in each register

-- what was as wanted in more cases is so afterwards
ends_more : (roads : List Road) (n : ℕ) (a b : Bool) → (T a → T b) → T (ends_wanted roads n a) → T (ends_wanted roads n b)
unfolding ends_wanted
ends_more [] n a b h t = h t
ends_more (road ∷ roads) n a b h t =
    ends_more roads n (eqb road.register n || a && not (eqb (moves road.index) n)) (eqb road.register n || b && not (eqb (moves road.index) n))
    (by-test (eqb road.register n) (λ e u. rw e tt)
    (λ e u.
    let still : T (a && not (eqb (moves road.index) n)) = rw e at u in
    rw e (both b (not (eqb (moves road.index) n)) (h (left a (not (eqb (moves road.index) n)) still)) (right a (not (eqb (moves road.index) n)) still))))
    t

ends-append : (first last : List Road) (n : ℕ) (held : Bool) → ends_wanted (first ++ last) n held ≡ ends_wanted last n (ends_wanted first n held)
unfolding ends_wanted
ends-append [] last n held = refl
ends-append (road ∷ first) last n held = ends-append first last n (eqb road.register n || held && not (eqb (moves road.index) n))

-- a register that no road moves stays as wanted
unfoldable unmoved : ℕ → Road → Bool
unmoved n road = not (eqb (moves road.index) n)

stays-wanted : (roads : List Road) (n : ℕ) → T (every_road (unmoved n) roads) → T (ends_wanted roads n true)
unfolding every_road ends_wanted unmoved
stays-wanted [] n t = tt
stays-wanted (road ∷ roads) n t =
    ends_more roads n true (eqb road.register n || not (eqb (moves road.index) n))
    (λ u. second (eqb road.register n) (not (eqb (moves road.index) n)) (left (not (eqb (moves road.index) n)) (every_road (unmoved n) roads) t))
    (stays-wanted roads n (right (not (eqb (moves road.index) n)) (every_road (unmoved n) roads) t))

-- one that is named ends as all roads have it
named-ends : (named : List Bool) (roads : List Road) (n : ℕ) (held : Bool) → get_or named n false ≡ true → T (ends_wanted roads n held)
    → T (ends_wanted (named_roads named roads) n held)
unfolding ends_wanted named_roads
named-ends named [] n held e t = t
named-ends named (road ∷ roads) n held e t =
    let rest = named-ends named roads n (eqb road.register n || held && not (eqb (moves road.index) n)) e t in
    by-test (get_or named road.register false) (λ q. rw q rest)
    (λ q. rw q
    (ends_more (named_roads named roads) n (eqb road.register n || held && not (eqb (moves road.index) n)) held
    (by-test (eqb road.register n)
    (λ d u. absurd (true≢false (sym e ∙ subst (λ (m : ℕ). get_or named m false ≡ false) (eqb-true road.register n d) q)))
    (λ d u. left held (not (eqb (moves road.index) n)) (rw d at u)))
    rest))

-- ---- every register

-- the last two stages write a register, whatever is named
unfoldable pub at_last : ℕ → ℕ → Bool
at_last misc n = ends_wanted (last_roads misc) n false

-- or no road moves it, and the register stage writes it if it is named; MISC is as wanted from the opening on
unfoldable plain : ℕ → ℕ → Bool
plain misc n = every_road (unmoved n) register_roads && every_road (unmoved n) (last_roads misc) && (ends_wanted register_roads n false || eqb n MISC)

all-covered : (misc : ℕ) → T (every_below (λ (n : ℕ). at_last misc n || plain misc n) register_count)
unfolding at_last plain every_road unmoved every_below ends_wanted last_roads closing_roads moves register_roads index_roads each_road but is_one_of sequencer crtc graphics attribute pipeline v_port
all-covered misc = tt

-- what stands open while a plan runs is written at the last
pub record OpenedLast (misc : ℕ) : Type 0 where
  pub pci04 : T (at_last misc PCI04)
  pub cr11 : T (at_last misc CR11)
  pub cr1a : T (at_last misc CR1A)
  pub b0 : T (at_last misc B0)

pub opened-last : (misc : ℕ) → OpenedLast misc
unfolding at_last ends_wanted last_roads closing_roads moves index_roads
opened-last misc = record { pci04 = tt; cr11 = tt; cr1a = tt; b0 = tt }

-- the registers that the stages after the colours leave are the wanted ones, if those were so before that are not named and not written at the last
pub named-as-wanted : (w xs : List ℕ) (named : List Bool) (misc : ℕ) → length xs ≡ length w → length w ≡ register_count → get_or xs MISC 0 ≡ get_or w MISC 0
    → ((n : ℕ) → n < register_count → at_last misc n ≡ false → (n ≡ MISC → ⊥) → get_or named n false ≡ false → get_or xs n 0 ≡ get_or w n 0)
    → after_roads w (named_roads named register_roads ++ last_roads misc) xs ≡ w
unfolding at_last plain
named-as-wanted w xs named misc full all same held =
    ext_get_or 0 (after_roads w roads xs) w (after-length w roads xs ∙ full)
    (λ n h.
    let small : n < register_count = omega (arith, after-length w roads xs) in
    let covered = below (λ (m : ℕ). at_last misc m || plain misc m) register_count (all-covered misc) n small in
    by-test (at_last misc n)
    (λ last. ends-wanted w roads xs n false (omega arith) (λ t. absurd t)
    (rw (ends-append (named_roads named register_roads) (last_roads misc) n false)
    (ends_more (last_roads misc) n false (ends_wanted (named_roads named register_roads) n false) (λ t. absurd t) (passes (at_last misc n) last))))
    (λ before.
    let free : T (plain misc n) = rw before at covered in
    let late = stays-wanted (last_roads misc) n (search (left, right)) in
    by-test (eqb n MISC)
    (λ e. held-wanted n (omega arith) (subst (λ (m : ℕ). get_or xs m 0 ≡ get_or w m 0) (sym (eqb-true n MISC e)) same) (search (left, right)) late)
    (λ e. by-test (get_or named n false)
    (λ is. ends-wanted w roads xs n false (omega arith) (λ t. absurd t)
    (rw (ends-append (named_roads named register_roads) (last_roads misc) n false)
    (ends_more (last_roads misc) n true (ends_wanted (named_roads named register_roads) n false)
    (λ t. named-ends named register_roads n false is (written n e free)) late)))
    (λ not'. held-wanted n (omega arith) (held n small before (eqb-false n MISC e) not') (search (left, right)) late))))
  where
    roads : List Road
    roads = named_roads named register_roads ++ last_roads misc

    written : (n : ℕ) → eqb n MISC ≡ false → T (plain misc n) → T (ends_wanted register_roads n false)
    written n e t =
        let or : T (ends_wanted register_roads n false || eqb n MISC) = right (every_road (unmoved n) register_roads && every_road (unmoved n) (last_roads misc)) (ends_wanted register_roads n false || eqb n MISC) t in
        by-test (ends_wanted register_roads n false) (λ q. passes (ends_wanted register_roads n false) q) (λ q. absurd (rw (q, e) at or))

    -- one that was as wanted and that nothing moves
    held-wanted : (n : ℕ) → n < length xs → get_or xs n 0 ≡ get_or w n 0 → T (every_road (unmoved n) register_roads) → T (ends_wanted (last_roads misc) n true)
        → get_or (after_roads w roads xs) n 0 ≡ get_or w n 0
    held-wanted n h e t late =
        ends-wanted w roads xs n true h (λ u. e)
        (rw (ends-append (named_roads named register_roads) (last_roads misc) n true)
        (ends_more (last_roads misc) n true (ends_wanted (named_roads named register_roads) n true)
        (λ u. stays-wanted (named_roads named register_roads) n (named-every (unmoved n) named register_roads t)) late))

-- ---- how many records they take

-- the marks of some numbers
abbrev marks_at : List Bool → List ℕ → List Bool
marks_at named numbers = map (λ (n : ℕ). get_or named n false) numbers

unfoldable distinct : List ℕ → Bool
distinct [] = true
distinct (n ∷ ns) = not (is_one_of ns n) && distinct ns

-- one mark taken out
without : (named : List Bool) (n : ℕ) → one (get_or named n false) + many (set named n false) ≡ many named
unfolding many one
without [] n = refl
without (b ∷ named) zero = omega arith
without (b ∷ named) (suc n) = omega (arith, without named n)

marks-other : (named : List Bool) (n : ℕ) (ns : List ℕ) → T (not (is_one_of ns n)) → marks_at (set named n false) ns ≡ marks_at named ns
unfolding is_one_of
marks-other named n [] t = refl
marks-other named n (m ∷ ns) t =
    by-test (eqb m n) (λ e. absurd (rw e at t))
    (λ e. ap₂ (λ (b : Bool) (bs : List Bool). b ∷ bs) (get_or-set_other named n m false false (eqb-false m n e)) (marks-other named n ns (rw e at t)))

-- no more of them than of all, where no number stands twice
few-marks : (ns : List ℕ) (named : List Bool) → T (distinct ns) → many (marks_at named ns) ≤ many named
unfolding distinct many
few-marks [] named t = omega arith
few-marks (n ∷ ns) named t =
    let rest = few-marks ns (set named n false) (right (not (is_one_of ns n)) (distinct ns) t) in
    omega (arith, without named n, rw (marks-other named n ns (left (not (is_one_of ns n)) (distinct ns) t)) at rest)

select-few : (i : Index) → length (selecting i) ≤ 1
unfolding selecting
select-few any = omega arith
select-few (sr n) = omega arith
select-few (cr n) = omega arith
select-few (gr n) = omega arith
select-few (ar n) = omega arith
select-few index_due = omega arith
select-few (data_due n) = omega arith

along-count : (w : List ℕ) (road : Road) (roads : List Road) → length (along w (road ∷ roads)) ≡ length (selecting road.index) + (1 + length (along w roads))
unfolding along
along-count w road roads = omega (arith, length-append (selecting road.index) (write road (get_or w road.register 0) ∷ along w roads))

-- at most 2 for each road that is named
each_two : (w : List ℕ) (named : List Bool) (roads : List Road)
    → length (along w (named_roads named roads)) ≤ 2 * many (marks_at named (map (λ (road : Road). road.register) roads))
unfolding named_roads many one along
each_two w named [] = omega arith
each_two w named (road ∷ roads) =
    by-test (get_or named road.register false)
    (λ e. rw e (omega (arith, along-count w road (named_roads named roads), select-few road.index, each_two w named roads)))
    (λ e. rw e (omega (arith, each_two w named roads)))

numbers-distinct : T (distinct (map (λ (road : Road). road.register) register_roads))
unfolding distinct is_one_of register_roads
numbers-distinct = tt

pub named_count : (w : List ℕ) (named : List Bool) → length (along w (named_roads named register_roads)) ≤ 2 * many named
named_count w named =
    omega (arith, each_two w named register_roads, few-marks (map (λ (road : Road). road.register) register_roads) named numbers-distinct)

-- and no more than all roads
pub named-along : (w : List ℕ) (named : List Bool) (roads : List Road) → length (along w (named_roads named roads)) ≤ length (along w roads)
unfolding named_roads along
named-along w named [] = omega arith
named-along w named (road ∷ roads) =
    by-test (get_or named road.register false)
    (λ e. rw e (omega (arith, along-count w road (named_roads named roads), along-count w road roads, named-along w named roads)))
    (λ e. rw e (omega (arith, along-count w road roads, named-along w named roads)))
