-- The entries that are named, one by one: they are the stretches' records, and a loop's turns over any list of colours. Assumes nothing.
use Prim.Native.Nat.{ℕ, suc, ◌+◌, ◌*◌, ◌≤◌, ◌<◌}
use mathlib.Core.Path.{◌≡◌, refl, sym, ap, ap₂, ◌∙◌, subst}
use mathlib.Core.Bool.{Bool, true, false, cond, not}
use mathlib.Core.List.{List, [], ◌∷◌, ◌++◌}
use native.Mathlib.Numerals.{add-one}
use native.Mathlib.Omega.{arith}
use borrow.Author.Tests.{ne_eqb}
use lib.Dec.{eqb, eqb_refl}
use lib.ListN.{length, get_or, drop, length-append, drop_of_length-le}
use lib.Seq.{drop-cons}
use Rattle.bits.proofs.Test.{by-test, is_true}
use Rattle.file.specs.declared.palette.Colour.{Colour}
use Rattle.access.specs.declared.record.Record.{Record}
use Rattle.roads.specs.Roads.{to_b0}
use Rattle.roads.specs.RoadRecords.{write}
use Rattle.roads.specs.Plan.{open_bank, pixel, pixels, entries}
use Rattle.roads.specs.ColourStage.{Stretch, stretch_records}
use Rattle.touched.specs.declared.set.Touched.{Touched}
use Rattle.short_roads.specs.ShortPlan.{before, stretches_from, bank_named, short_colours}
use Rattle.plan.specs.Appended.{Appended}
use Rattle.plan.specs.EngineEntries.{entry_records, entries_named}
use Rattle.plan.proofs.Appending.{Left, less-left, room-left, none_left}

-- ---- the stretches' records

-- the records of some stretches where the pointer stands at an entry: one that begins there needs no address
unfoldable there : ℕ → List Stretch → List Record
there n [] = []
there n (next ∷ stretches) = cond (eqb next.first n) (pixels next.colours ++ stretch_records stretches) (stretch_records (next ∷ stretches))

-- none begins before the first entry that is looked at
later : (named : List Bool) (m : ℕ) (cs : List Colour) (n : ℕ) → n < m → there n (stretches_from m named cs) ≡ stretch_records (stretches_from m named cs)
unfolding stretches_from there stretch_records before
later [] m cs n h = refl
later (b ∷ named) m [] n h = refl
later (true ∷ named) m (c ∷ cs) n h = begins (stretches_from (suc m) named cs) (ne_eqb m n (λ e. omega arith))
  where
    begins : (stretches : List Stretch) → eqb m n ≡ false → there n (before m c stretches) ≡ stretch_records (before m c stretches)
    begins [] e = rw e
    begins (next ∷ stretches) e = by-test (eqb next.first (suc m)) (λ q. rw (q, e)) (λ q. rw (q, e))
later (false ∷ named) m (c ∷ cs) n h = later named (suc m) cs n (omega arith)

-- an entry before some stretches, whose address is written, or where the pointer stands
before-apart : (n : ℕ) (c : Colour) (stretches : List Stretch) → stretch_records (before n c stretches) ≡ entry_records true true n c ++ there (suc n) stretches
unfolding before stretch_records there entries pixels pixel entry_records
before-apart n c [] = refl
before-apart n c (next ∷ stretches) = by-test (eqb next.first (suc n)) (λ e. rw e) (λ e. rw e)

before-there : (n : ℕ) (c : Colour) (stretches : List Stretch) → there n (before n c stretches) ≡ entry_records true false n c ++ there (suc n) stretches
unfolding before stretch_records there entries pixels pixel entry_records
before-there n c [] = rw (is_true (eqb n n) (eqb_refl n))
before-there n c (next ∷ stretches) =
    by-test (eqb next.first (suc n)) (λ e. rw (e, is_true (eqb n n) (eqb_refl n))) (λ e. rw (e, is_true (eqb n n) (eqb_refl n)))

named-both : (named : List Bool) (n : ℕ) (cs : List Colour)
    → (stretch_records (stretches_from n named cs) ≡ entries_named true n named cs) × (there n (stretches_from n named cs) ≡ entries_named false n named cs)
unfolding stretches_from entries_named stretch_records there entry_records
named-both [] n cs = (refl, refl)
named-both (b ∷ named) n [] = (refl, refl)
named-both (true ∷ named) n (c ∷ cs) =
    let rest = named-both named (suc n) cs in (
      before-apart n c (stretches_from (suc n) named cs) ∙ ap (λ (rs : List Record). entry_records true true n c ++ rs) rest.1,
      before-there n c (stretches_from (suc n) named cs) ∙ ap (λ (rs : List Record). entry_records true false n c ++ rs) rest.1,
    )
named-both (false ∷ named) n (c ∷ cs) =
    let rest = named-both named (suc n) cs in
    (rest.0, later named (suc n) cs n (omega arith) ∙ rest.0)

pub as-stretches : (named : List Bool) (cs : List Colour) → entries_named true 0 named cs ≡ stretch_records (stretches_from 0 named cs)
as-stretches named cs = sym (named-both named 0 cs).0

-- the stage of colours, entry by entry
pub short-parts : (s : Touched) (palette bank : List Colour)
    → short_colours s palette bank ≡ entries_named true 0 s.palette palette ++ write to_b0 open_bank ∷ entries_named true 0 (bank_named s) bank
unfolding short_colours
short-parts s palette bank =
    ap₂ (λ (a b : List Record). a ++ write to_b0 open_bank ∷ b) (sym (as-stretches s.palette palette)) (sym (as-stretches (bank_named s) bank))

pub short-room : (s : Touched) (palette bank : List Colour)
    → length (short_colours s palette bank) ≡ length (entries_named true 0 s.palette palette) + (1 + length (entries_named true 0 (bank_named s) bank))
short-room s palette bank =
    omega (
      arith,
      ap length (short-parts s palette bank),
      length-append (entries_named true 0 s.palette palette) (write to_b0 open_bank ∷ entries_named true 0 (bank_named s) bank),
    )

-- ---- a loop's turns

-- so many entries were looked at: with the others, the buffer holds all that are named
pub record NamedTurns (start : List ℕ) (at : ℕ) (named : List Bool) (cs : List Colour) (count : ℕ) (buffer : List ℕ) (here : ℕ) (apart : Bool) (i : ℕ) : Type 0 where
  pub rest : Left start at (entries_named true 0 named cs) buffer here (entries_named apart i (drop i named) (drop i cs))
  pub few : i ≤ count

module _ {start : List ℕ} {at : ℕ} {named : List Bool} {cs : List Colour} {count : ℕ} {buffer : List ℕ} {here : ℕ} {apart : Bool} {i : ℕ}
    (marks : length named ≡ count) (all : length cs ≡ count) (so : NamedTurns start at named cs count buffer here apart i) where
  -- the next entry's records, and the others'
  next : (d : Colour) → i < count
      → Left start at (entries_named true 0 named cs) buffer here
      (entry_records (get_or named i false) apart i (get_or cs i d) ++ entries_named (not (get_or named i false)) (i + 1) (drop (i + 1) named) (drop (i + 1) cs))
  unfolding entries_named
  next d h =
      subst (λ (rs : List Record). Left start at (entries_named true 0 named cs) buffer here rs)
      (ap₂ (λ (bs : List Bool) (ds : List Colour). entries_named apart i bs ds) (drop-cons named i false (omega arith)) (drop-cons cs i d (omega arith)) ∙ rw add-one)
      so.rest

  -- a turn has room, if all entries had
  pub named-room : (d : Colour) → i < count → at + 8 * length (entries_named true 0 named cs) ≤ length start
      → here + 8 * length (entry_records (get_or named i false) apart i (get_or cs i d)) ≤ length buffer
  named-room d h room =
      room-left (entry_records (get_or named i false) apart i (get_or cs i d))
      (entries_named (not (get_or named i false)) (i + 1) (drop (i + 1) named) (drop (i + 1) cs)) (next d h) room

  pub named-turn : (d : Colour) {after : List ℕ} {p : ℕ} → i < count → Appended buffer here (entry_records (get_or named i false) apart i (get_or cs i d)) after p
      → NamedTurns start at named cs count after p (not (get_or named i false)) (i + 1)
  named-turn d h v = record { rest = less-left (next d h) v; few = omega arith }

  -- after the last
  pub named-turned : count ≤ i → Appended start at (entries_named true 0 named cs) buffer here
  unfolding entries_named
  named-turned h =
      none_left
      (subst (λ (bs : List Bool). Left start at (entries_named true 0 named cs) buffer here (entries_named apart i bs (drop i cs)))
      (drop_of_length-le named {i = i} (omega arith)) so.rest)
