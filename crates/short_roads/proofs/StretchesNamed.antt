-- The stretches of the entries that a set names: they lie within the palette or the bank, leave what is named as wanted and all else as before, and
-- take at most 4 records for each entry and no more than one stretch of all entries does. Assumes nothing.
use Prim.Native.Nat.{ℕ, zero, suc, ◌+◌, ◌*◌, ◌%◌, ◌≤◌, ◌<◌}
use mathlib.Core.Path.{◌≡◌, refl, sym, ap, ◌∙◌, subst}
use mathlib.Core.Bool.{Bool, true, false, true≢false, cond, ◌&&◌}
use mathlib.Core.List.{List, [], ◌∷◌}
use native.Mathlib.Omega.{arith}
use borrow.Author.Tests.{eqb-true}
use lib.Dec.{T, eqb, leb, ltb, leb→le, le→leb, lt→ltb, eqb_refl}
use lib.ListN.{get_or, set, length, length-set, length-append}
use lib.Seq.{ext_get_or, get_or-set_same, get_or-set_other}
use Rattle.bits.proofs.Test.{left, right, both, by-test, is_true}
use Rattle.file.specs.declared.palette.Colour.{Colour}
use Rattle.file.specs.declared.registers.File.{File}
use Rattle.file.specs.File.{with_palette, with_bank, with_state, black}
use Rattle.file.specs.Palette.{addressed}
use Rattle.file.specs.State.{stepping}
use Rattle.roads.specs.Plan.{entries}
use Rattle.roads.specs.Restores.{bytes}
use Rattle.roads.specs.ColourStage.{Stretch, entry_count, in_range, every_stretch, painted, with_step, write_blue, marks_after, after_stretch, after_stretches, entries_after, stretch_records}
use Rattle.roads.proofs.PlanCount.{pixels-count}
use Rattle.touched.specs.Things.{one, many}
use Rattle.short_roads.specs.ShortPlan.{before, stretches_from}

-- one entry
abbrev single : ℕ → Colour → Stretch
single n c = record { first = n; colours = c ∷ [] }

-- ---- in range

small : (bank : Bool) → entry_count bank ≤ 256
small true = omega arith
small false = omega arith

single-in-range : (bank : Bool) (n : ℕ) (c : Colour) → n + 1 ≤ entry_count bank → T (bytes (c ∷ [])) → T (in_range bank (single n c))
unfolding in_range
single-in-range bank n c h t =
    both (ltb n 256 && leb (n + 1) (entry_count bank)) (bytes (c ∷ []))
    (both (ltb n 256) (leb (n + 1) (entry_count bank)) (lt→ltb n 256 (omega (arith, small bank))) (le→leb (n + 1) (entry_count bank) h)) t

-- a colour of whole bytes, before any others that are
bytes-before : (c : Colour) (cs ds : List Colour) → T (bytes (c ∷ cs)) → T (bytes ds) → T (bytes (c ∷ ds))
unfolding bytes
bytes-before c cs ds t u =
    both (ltb c.red 256 && ltb c.green 256 && ltb c.blue 256) (bytes ds)
    (left (ltb c.red 256 && ltb c.green 256 && ltb c.blue 256) (bytes cs) t) u

bytes-behind : (c : Colour) (cs : List Colour) → T (bytes (c ∷ cs)) → T (bytes cs)
unfolding bytes
bytes-behind c cs t = right (ltb c.red 256 && ltb c.green 256 && ltb c.blue 256) (bytes cs) t

-- an entry joined to the stretch behind it
abbrev grown : ℕ → Colour → Stretch → Stretch
grown n c next = record { first = n; colours = c ∷ next.colours }

grown-in-range : (bank : Bool) (n : ℕ) (c : Colour) (cs : List Colour) (next : Stretch) → T (bytes (c ∷ cs)) → next.first ≡ suc n → T (in_range bank next)
    → T (in_range bank (grown n c next))
unfolding in_range
grown-in-range bank n c cs next t e its =
    let fits : next.first + length next.colours ≤ entry_count bank = leb→le _ _ (search (left, right)) in
    both (ltb n 256 && leb (n + suc (length next.colours)) (entry_count bank)) (bytes (c ∷ next.colours))
    (both (ltb n 256) (leb (n + suc (length next.colours)) (entry_count bank)) (lt→ltb n 256 (omega (arith, small bank)))
    (le→leb (n + suc (length next.colours)) (entry_count bank) (omega arith)))
    (bytes-before c cs next.colours t (search (left, right)))

-- joined or not, it is as if the entry were written first
blue-stays : (cs : List Colour) → marks_after write_blue cs ≡ write_blue
unfolding marks_after
blue-stays [] = refl
blue-stays (d ∷ ds) = refl

grown-after : (bank : Bool) (n : ℕ) (c : Colour) (next : Stretch) (f : File) → next.first ≡ suc n
    → after_stretch bank (grown n c next) f ≡ after_stretch bank next (after_stretch bank (single n c) f)
unfolding after_stretch painted with_step with_state stepping with_bank with_palette marks_after
grown-after true n c next f e =
    let shift : n + suc (length next.colours) ≡ suc n + length next.colours = omega arith in rw (e, blue-stays next.colours, shift)
grown-after false n c next f e =
    let shift : n + suc (length next.colours) ≡ suc n + length next.colours = omega arith in rw (e, blue-stays next.colours, shift)

module _ (bank : Bool) where
  before-in-range : (n : ℕ) (c : Colour) (cs : List Colour) (stretches : List Stretch) → n + 1 ≤ entry_count bank → T (bytes (c ∷ cs))
      → T (every_stretch (in_range bank) stretches) → T (every_stretch (in_range bank) (before n c stretches))
  unfolding every_stretch before bytes
  before-in-range n c cs [] h t s = both (in_range bank (single n c)) true (single-in-range bank n c h (bytes-before c cs [] t tt)) tt
  before-in-range n c cs (next ∷ stretches) h t s =
      by-test (eqb next.first (suc n))
      (λ e. rw e
      (both (in_range bank (grown n c next)) (every_stretch (in_range bank) stretches)
      (grown-in-range bank n c cs next t (eqb-true next.first (suc n) e) (left (in_range bank next) (every_stretch (in_range bank) stretches) s))
      (right (in_range bank next) (every_stretch (in_range bank) stretches) s)))
      (λ e. rw e (both (in_range bank (single n c)) (every_stretch (in_range bank) (next ∷ stretches)) (single-in-range bank n c h (bytes-before c cs [] t tt)) s))

  pub stretches-in-range : (named : List Bool) (n : ℕ) (cs : List Colour) → n + length cs ≤ entry_count bank → T (bytes cs)
      → T (every_stretch (in_range bank) (stretches_from n named cs))
  unfolding every_stretch stretches_from
  stretches-in-range [] n cs h t = tt
  stretches-in-range (b ∷ named) n [] h t = tt
  stretches-in-range (true ∷ named) n (c ∷ cs) h t =
      before-in-range n c cs (stretches_from (suc n) named cs) (omega arith) t (stretches-in-range named (suc n) cs (omega arith) (bytes-behind c cs t))
  stretches-in-range (false ∷ named) n (c ∷ cs) h t = stretches-in-range named (suc n) cs (omega arith) (bytes-behind c cs t)

  before-after : (n : ℕ) (c : Colour) (stretches : List Stretch) (f : File)
      → after_stretches bank (before n c stretches) f ≡ after_stretches bank stretches (after_stretch bank (single n c) f)
  unfolding before after_stretches
  before-after n c [] f = refl
  before-after n c (next ∷ stretches) f =
      by-test (eqb next.first (suc n))
      (λ e. rw e (ap (after_stretches bank stretches) (grown-after bank n c next f (eqb-true next.first (suc n) e)))) (λ e. rw e)

  -- behind the last entry, if it is named: the pointer stands there, the marks are write, blue
  pub ends-behind : (named : List Bool) (n : ℕ) (cs : List Colour) (k : ℕ) (f : File) → length named ≡ length cs → suc k ≡ length named → get_or named k false ≡ true
      → ((after_stretches bank (stretches_from n named cs) f).state.pointer ≡ addressed false ((n + length named) % 256))
      × ((after_stretches bank (stretches_from n named cs) f).state.marks ≡ write_blue)
  unfolding stretches_from before after_stretches after_stretch with_step marks_after
  ends-behind [] n cs k f full last t = absurd (omega arith)
  ends-behind (b ∷ named) n [] k f full last t = absurd (omega arith)
  ends-behind (b ∷ []) n (c ∷ cs) (suc k) f full last t = absurd (omega arith)
  ends-behind (true ∷ []) n (c ∷ cs) zero f full last t = (refl, refl)
  ends-behind (false ∷ []) n (c ∷ cs) zero f full last t = absurd (true≢false (sym t))
  ends-behind (b ∷ b' ∷ named) n (c ∷ cs) zero f full last t = absurd (omega arith)
  ends-behind (true ∷ b' ∷ named) n (c ∷ cs) (suc k) f full last t =
      let shift : suc n + length (b' ∷ named) ≡ n + length (true ∷ b' ∷ named) = omega arith in
      let rest = ends-behind (b' ∷ named) (suc n) cs k (after_stretch bank (single n c) f) (omega arith) (omega arith) t in
      let whole = before-after n c (stretches_from (suc n) (b' ∷ named) cs) f in
      (ap (λ (g : File). g.state.pointer) whole ∙ rest.0 ∙ ap (λ (m : ℕ). addressed false (m % 256)) shift, ap (λ (g : File). g.state.marks) whole ∙ rest.1)
  ends-behind (false ∷ b' ∷ named) n (c ∷ cs) (suc k) f full last t =
      let shift : suc n + length (b' ∷ named) ≡ n + length (false ∷ b' ∷ named) = omega arith in
      let rest = ends-behind (b' ∷ named) (suc n) cs k f (omega arith) (omega arith) t in
      (rest.0 ∙ ap (λ (m : ℕ). addressed false (m % 256)) shift, rest.1)

-- ---- among the entries

-- a list with those that are named stored, one by one
unfoldable pub patched : ℕ → List Bool → List Colour → List Colour → List Colour
patched n [] cs l = l
patched n (b ∷ named) [] l = l
patched n (true ∷ named) (c ∷ cs) l = patched (suc n) named cs (set l n c)
patched n (false ∷ named) (c ∷ cs) l = patched (suc n) named cs l

before-entries : (n : ℕ) (c : Colour) (stretches : List Stretch) (l : List Colour) → entries_after (before n c stretches) l ≡ entries_after stretches (set l n c)
unfolding before entries_after
before-entries n c [] l = refl
before-entries n c (next ∷ stretches) l =
    by-test (eqb next.first (suc n)) (λ e. rw (e, eqb-true next.first (suc n) e)) (λ e. rw e)

pub entries-patched : (named : List Bool) (n : ℕ) (cs l : List Colour) → entries_after (stretches_from n named cs) l ≡ patched n named cs l
unfolding stretches_from patched entries_after
entries-patched [] n cs l = refl
entries-patched (b ∷ named) n [] l = refl
entries-patched (true ∷ named) n (c ∷ cs) l = before-entries n c (stretches_from (suc n) named cs) l ∙ entries-patched named (suc n) cs (set l n c)
entries-patched (false ∷ named) n (c ∷ cs) l = entries-patched named (suc n) cs l

patched-length : (named : List Bool) (n : ℕ) (cs l : List Colour) → length (patched n named cs l) ≡ length l
unfolding patched
patched-length [] n cs l = refl
patched-length (b ∷ named) n [] l = refl
patched-length (true ∷ named) n (c ∷ cs) l = patched-length named (suc n) cs (set l n c) ∙ length-set l n c
patched-length (false ∷ named) n (c ∷ cs) l = patched-length named (suc n) cs l

patched-below : (named : List Bool) (n : ℕ) (cs l : List Colour) (i : ℕ) → i < n → get_or (patched n named cs l) i black ≡ get_or l i black
unfolding patched
patched-below [] n cs l i h = refl
patched-below (b ∷ named) n [] l i h = refl
patched-below (true ∷ named) n (c ∷ cs) l i h = patched-below named (suc n) cs (set l n c) i (omega arith) ∙ get_or-set_other l n i c black (λ e. omega arith)
patched-below (false ∷ named) n (c ∷ cs) l i h = patched-below named (suc n) cs l i (omega arith)

-- where an entry that is not named is as wanted before, each is afterwards
patched-wanted : (named : List Bool) (n : ℕ) (cs l : List Colour) (k : ℕ) → length named ≡ length cs → n + length cs ≤ length l
    → ((i : ℕ) → i < length cs → get_or named i false ≡ false → get_or l (n + i) black ≡ get_or cs i black)
    → k < length cs → get_or (patched n named cs l) (n + k) black ≡ get_or cs k black
unfolding patched
patched-wanted [] n [] l k full room held h = absurd (omega arith)
patched-wanted [] n (c ∷ cs) l k full room held h = absurd (omega arith)
patched-wanted (b ∷ named) n [] l k full room held h = absurd (omega arith)
patched-wanted (true ∷ named) n (c ∷ cs) l zero full room held h =
    patched-below named (suc n) cs (set l n c) (n + 0) (omega arith)
    ∙ subst (λ (m : ℕ). get_or (set l n c) m black ≡ c) (omega arith) (get_or-set_same l n c black (omega arith))
patched-wanted (true ∷ named) n (c ∷ cs) l (suc k) full room held h =
    subst (λ (m : ℕ). get_or (patched (suc n) named cs (set l n c)) m black ≡ get_or cs k black) (omega arith)
    (patched-wanted named (suc n) cs (set l n c) k (omega arith) (omega (arith, length-set l n c))
    (λ i small e. get_or-set_other l n (suc n + i) c black (λ q. omega arith)
    ∙ subst (λ (m : ℕ). get_or l m black ≡ get_or cs i black) (omega arith) (held (suc i) (omega arith) e))
    (omega arith))
patched-wanted (false ∷ named) n (c ∷ cs) l zero full room held h =
    patched-below named (suc n) cs l (n + 0) (omega arith) ∙ held 0 (omega arith) refl
patched-wanted (false ∷ named) n (c ∷ cs) l (suc k) full room held h =
    subst (λ (m : ℕ). get_or (patched (suc n) named cs l) m black ≡ get_or cs k black) (omega arith)
    (patched-wanted named (suc n) cs l k (omega arith) (omega arith)
    (λ i small e. subst (λ (m : ℕ). get_or l m black ≡ get_or cs i black) (omega arith) (held (suc i) (omega arith) e))
    (omega arith))

pub patched-all : (named : List Bool) (wanted l : List Colour) → length named ≡ length wanted → length l ≡ length wanted
    → ((i : ℕ) → i < length wanted → get_or named i false ≡ false → get_or l i black ≡ get_or wanted i black)
    → entries_after (stretches_from 0 named wanted) l ≡ wanted
patched-all named wanted l full same held =
    entries-patched named 0 wanted l
    ∙ ext_get_or black (patched 0 named wanted l) wanted (patched-length named 0 wanted l ∙ same)
    (λ k h.
    subst (λ (m : ℕ). get_or (patched 0 named wanted l) m black ≡ get_or wanted k black) (omega arith)
    (patched-wanted named 0 wanted l k full (omega arith)
    (λ i small e. subst (λ (m : ℕ). get_or l m black ≡ get_or wanted i black) (omega arith) (held i small e))
    (omega (arith, patched-length named 0 wanted l))))

-- ---- how many records they take

abbrev pub cost : List Stretch → ℕ
cost stretches = length (stretch_records stretches)

stretch-cost : (stretch : Stretch) (stretches : List Stretch) → cost (stretch ∷ stretches) ≡ 1 + 3 * length stretch.colours + cost stretches
unfolding stretch_records entries
stretch-cost stretch stretches =
    omega (arith, length-append (entries stretch.first stretch.colours) (stretch_records stretches), pixels-count stretch.colours)

-- some stretches begin at an entry
unfoldable begins : ℕ → List Stretch → Bool
begins n [] = false
begins n (stretch ∷ stretches) = eqb stretch.first n

-- an entry more takes 3 records, and one for its address unless it joins
before-cost : (n : ℕ) (c : Colour) (stretches : List Stretch) → cost (before n c stretches) ≡ cond (begins (suc n) stretches) 3 4 + cost stretches
unfolding before begins
before-cost n c [] = stretch-cost (single n c) []
before-cost n c (next ∷ stretches) =
    by-test (eqb next.first (suc n))
    (λ e. rw e (omega (arith, stretch-cost (grown n c next) stretches, stretch-cost next stretches)))
    (λ e. rw e (omega (arith, stretch-cost (single n c) (next ∷ stretches))))

before-begins : (n : ℕ) (c : Colour) (stretches : List Stretch) → begins n (before n c stretches) ≡ true
unfolding before begins
before-begins n c [] = is_true (eqb n n) (eqb_refl n)
before-begins n c (next ∷ stretches) =
    by-test (eqb next.first (suc n)) (λ e. rw e (is_true (eqb n n) (eqb_refl n))) (λ e. rw e (is_true (eqb n n) (eqb_refl n)))

-- at most 4 for each entry that is named
pub named-cost : (named : List Bool) (n : ℕ) (cs : List Colour) → cost (stretches_from n named cs) ≤ 4 * many named
unfolding stretches_from many one stretch_records
named-cost [] n cs = omega arith
named-cost (b ∷ named) n [] = omega arith
named-cost (true ∷ named) n (c ∷ cs) =
    by-test (begins (suc n) (stretches_from (suc n) named cs))
    (λ e. omega (arith, rw e at (before-cost n c (stretches_from (suc n) named cs)), named-cost named (suc n) cs))
    (λ e. omega (arith, rw e at (before-cost n c (stretches_from (suc n) named cs)), named-cost named (suc n) cs))
named-cost (false ∷ named) n (c ∷ cs) = omega (arith, named-cost named (suc n) cs)

-- and at most those of one stretch of all; one less if the first entry is not named
whole-cost : (named : List Bool) (n : ℕ) (cs : List Colour)
    → (cost (stretches_from n named cs) ≤ 1 + 3 * length cs) × (begins n (stretches_from n named cs) ≡ false → cost (stretches_from n named cs) ≤ 3 * length cs)
unfolding stretches_from stretch_records
whole-cost [] n cs = (omega arith, λ e. omega arith)
whole-cost (b ∷ named) n [] = (omega arith, λ e. omega arith)
whole-cost (true ∷ named) n (c ∷ cs) =
    let rest = whole-cost named (suc n) cs in
    let next = before-cost n c (stretches_from (suc n) named cs) in (
      by-test (begins (suc n) (stretches_from (suc n) named cs))
          (λ e. omega (arith, rw e at next, rest.0)) (λ e. omega (arith, rw e at next, rest.1 e)),
      λ e. absurd (true≢false (sym (before-begins n c (stretches_from (suc n) named cs)) ∙ e)),
    )
whole-cost (false ∷ named) n (c ∷ cs) =
    let rest = whole-cost named (suc n) cs in
    (omega (arith, rest.0), λ e. omega (arith, rest.0))

pub stretches-cost : (named : List Bool) (cs : List Colour) → cost (stretches_from 0 named cs) ≤ length (entries 0 cs)
unfolding entries
stretches-cost named cs = omega (arith, (whole-cost named 0 cs).0, pixels-count cs)
