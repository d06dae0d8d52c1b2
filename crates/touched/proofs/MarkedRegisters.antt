-- Registers marked one by one, by their numbers: the set with the reaches of stores into them. Assumes nothing.
use Prim.Native.Nat.{ℕ, ◌<◌}
use mathlib.Core.Path.{◌≡◌, refl, sym, ap, ◌∙◌}
use mathlib.Core.Bool.{Bool, true, false, ◌||◌}
use mathlib.Core.List.{List, [], ◌∷◌}
use lib.Dec.{T, eqb, ltb→lt, lt→ltb}
use lib.ListN.{get_or, length, set, length-set}
use lib.Seq.{ext_get_or}
use Rattle.bits.proofs.Test.{or-false, every_below, below}
use Rattle.file.specs.declared.effect.Reach.{Reach}
use Rattle.file.specs.Registers.{register_count}
use Rattle.touched.specs.declared.set.Touched.{Touched}
use Rattle.touched.specs.Noted.{any_reaches, noted_all}
use Rattle.touched.specs.Outside.{same_bools}
use Rattle.touched.specs.Things.{Thing, a_register, in_palette, in_bank, the_pointer, the_marks, the_toggle, there, names, IsSet}
use Rattle.touched.proofs.NotedNames.{or_assoc, mark-more, all_set, all_named}

-- ---- two sets that name the same

pub sets-alike : (a b : Touched) → IsSet a → IsSet b → ((t : Thing) → T (there t) → names a t ≡ names b t) → a ≡ b
unfolding names there
sets-alike a b ia ib same =
    let registers = ext_get_or false a.registers b.registers (ia.registers ∙ sym ib.registers) (λ n h. same (a_register n) (lt→ltb n _ (rw (sym ia.registers) h))) in
    let palette = ext_get_or false a.palette b.palette (ia.palette ∙ sym ib.palette) (λ n h. same (in_palette n) (lt→ltb n _ (rw (sym ia.palette) h))) in
    let bank = ext_get_or false a.bank b.bank (ia.bank ∙ sym ib.bank) (λ n h. same (in_bank n) (lt→ltb n _ (rw (sym ia.bank) h))) in
    λ i.
    record {
      registers = registers i;
      palette = palette i;
      bank = bank i;
      pointer = same the_pointer tt i;
      marks = same the_marks tt i;
      toggle = same the_toggle tt i;
    }

-- ---- marks by number

unfoldable pub set_all : List ℕ → List Bool → List Bool
set_all [] named = named
set_all (n ∷ ns) named = set_all ns (set named n true)

unfoldable pub is_among : List ℕ → ℕ → Bool
is_among [] n = false
is_among (k ∷ ks) n = eqb n k || is_among ks n

set-all-length : (ns : List ℕ) (named : List Bool) → length (set_all ns named) ≡ length named
unfolding set_all
set-all-length [] named = refl
set-all-length (n ∷ ns) named = set-all-length ns (set named n true) ∙ simp length-set

set-all-more : (ns : List ℕ) (named : List Bool) (n : ℕ) → n < length named → get_or (set_all ns named) n false ≡ (get_or named n false || is_among ns n)
unfolding set_all is_among
set-all-more [] named n h = sym (or-false (get_or named n false))
set-all-more (k ∷ ks) named n h =
    set-all-more ks (set named k true) n (simp length-set h)
    ∙ ap (λ (b : Bool). b || is_among ks n) (mark-more k n named h)
    ∙ or_assoc (get_or named n false) (eqb n k) (is_among ks n)

-- ---- the set with them

-- of what a set may name, the registers of a list
unfoldable pub among : List ℕ → Thing → Bool
unfolding is_among
among ns (a_register n) = is_among ns n
among ns (in_palette n) = false
among ns (in_bank n) = false
among ns the_pointer = false
among ns the_marks = false
among ns the_toggle = false

unfoldable pub marked : List ℕ → Touched → Touched
unfolding set_all
marked ns s =
    record { registers = set_all ns s.registers; palette = s.palette; bank = s.bank; pointer = s.pointer; marks = s.marks; toggle = s.toggle }

marked-names : (ns : List ℕ) (s : Touched) (t : Thing) → IsSet s → T (there t) → names (marked ns s) t ≡ (names s t || among ns t)
unfolding names there marked among
marked-names ns s (a_register n) is h = set-all-more ns s.registers n (rw is.registers (ltb→lt n _ h))
marked-names ns s (in_palette n) is h = sym (or-false (get_or s.palette n false))
marked-names ns s (in_bank n) is h = sym (or-false (get_or s.bank n false))
marked-names ns s the_pointer is h = sym (or-false s.pointer)
marked-names ns s the_marks is h = sym (or-false s.marks)
marked-names ns s the_toggle is h = sym (or-false s.toggle)

marked-set : (ns : List ℕ) (s : Touched) → IsSet s → IsSet (marked ns s)
unfolding marked
marked-set ns s is = record { registers = set-all-length ns s.registers ∙ is.registers; palette = is.palette; bank = is.bank }

-- where the reaches reach the registers of a list and nothing else, the set with them is the one with those marked
pub marked_all : (ns : List ℕ) (rs : List Reach) (s : Touched) → IsSet s → ((t : Thing) → T (there t) → among ns t ≡ any_reaches rs t)
    → marked ns s ≡ noted_all rs s
marked_all ns rs s is same =
    sets-alike (marked ns s) (noted_all rs s) (marked-set ns s is) (all_set rs s is)
    (λ t h. marked-names ns s t is h ∙ ap (λ (b : Bool). names s t || b) (same t h) ∙ sym (all_named rs s t is h))

-- of the registers, by computing
pub same_numbers : (ns : List ℕ) (rs : List Reach) → T (every_below (λ (n : ℕ). same_bools (is_among ns n) (any_reaches rs (a_register n))) register_count)
    → (n : ℕ) → T (there (a_register n)) → among ns (a_register n) ≡ any_reaches rs (a_register n)
unfolding there among same_bools
same_numbers ns rs test n h =
    same (is_among ns n) (any_reaches rs (a_register n))
    (below (λ (k : ℕ). same_bools (is_among ns k) (any_reaches rs (a_register k))) register_count test n (ltb→lt n _ h))
  where
    same : (a b : Bool) → T (same_bools a b) → a ≡ b
    same true true t = refl
    same true false t = absurd t
    same false true t = absurd t
    same false false t = refl
