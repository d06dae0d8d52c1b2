-- 02, 11/13: the set after is the set before and what was reached. Assumes nothing.
use Prim.Native.Nat.{ℕ, ◌<◌}
use mathlib.Core.Path.{◌≡◌, refl, sym, ap, ◌∙◌}
use mathlib.Core.Bool.{Bool, true, false, not, ◌&&◌, ◌||◌}
use mathlib.Core.List.{List, [], ◌∷◌, ◌++◌}
use borrow.Author.Tests.{eqb-true, eqb-false}
use lib.Dec.{T, eqb, ltb→lt}
use lib.ListN.{get_or, length, set, length-set}
use lib.Seq.{get_or-set_same, get_or-set_other}
use Rattle.bits.proofs.Test.{by-test, or-false}
use Rattle.file.specs.declared.effect.Effect.TheVariants.{Nothing}
use Rattle.file.specs.declared.effect.Reach.{Reach}
use Rattle.file.specs.Effects.{reach_of}
use Rattle.touched.specs.declared.set.Touched.{Touched}
use Rattle.touched.specs.Noted.{reaches, also, noted, any_reaches, noted_all}
use Rattle.touched.specs.Things.{Thing, a_register, in_palette, in_bank, the_pointer, the_marks, the_toggle, there, names, IsSet}

pub or-true : (b : Bool) → b || true ≡ true
or-true true = refl
or-true false = refl

pub or_assoc : (a b c : Bool) → ((a || b) || c) ≡ (a || (b || c))
or_assoc true b c = refl
or_assoc false b c = refl

-- one mark more
pub mark-more : (k n : ℕ) (named : List Bool) → n < length named → get_or (set named k true) n false ≡ (get_or named n false || eqb n k)
mark-more k n named h =
    by-test (eqb n k)
    (λ e. rw (e, or-true) (rw (sym (eqb-true n k e)) (get_or-set_same named n true false h)))
    (λ e. rw (e, or-false) (get_or-set_other named k n true false (eqb-false n k e)))

pub also-more : (more : Bool) (k n : ℕ) (named : List Bool) → n < length named → get_or (also more k named) n false ≡ (get_or named n false || (more && eqb n k))
unfolding also
also-more true k n named h = mark-more k n named h
also-more false k n named h = sym (or-false (get_or named n false))

pub also-length : (more : Bool) (k : ℕ) (named : List Bool) → length (also more k named) ≡ length named
unfolding also
also-length true k named = simp length-set
also-length false k named = refl

-- the set after names what the set before names and what was reached, and nothing else
pub noted-names : (r : Reach) (s : Touched) (t : Thing) → IsSet s → T (there t) → names (noted r s) t ≡ (names s t || reaches r t)
unfolding names noted reaches there
noted-names r s (a_register n) is h = also-more (not (eqb r.bits 0)) r.register n s.registers (rw is.registers (ltb→lt n _ h))
noted-names r s (in_palette n) is h = also-more r.palette r.entry n s.palette (rw is.palette (ltb→lt n _ h))
noted-names r s (in_bank n) is h = also-more r.bank r.entry n s.bank (rw is.bank (ltb→lt n _ h))
noted-names r s the_pointer is h = refl
noted-names r s the_marks is h = refl
noted-names r s the_toggle is h = refl

pub noted-set : (r : Reach) (s : Touched) → IsSet s → IsSet (noted r s)
unfolding noted
noted-set r s is =
    record {
      registers = also-length (not (eqb r.bits 0)) r.register s.registers ∙ is.registers;
      palette = also-length r.palette r.entry s.palette ∙ is.palette;
      bank = also-length r.bank r.entry s.bank ∙ is.bank;
    }

-- and so for several reaches
pub all_set : (rs : List Reach) (s : Touched) → IsSet s → IsSet (noted_all rs s)
unfolding noted_all
all_set [] s is = is
all_set (r ∷ rs) s is = all_set rs (noted r s) (noted-set r s is)

pub all_named : (rs : List Reach) (s : Touched) (t : Thing) → IsSet s → T (there t) → names (noted_all rs s) t ≡ (names s t || any_reaches rs t)
unfolding noted_all any_reaches
all_named [] s t is h = sym (or-false (names s t))
all_named (r ∷ rs) s t is h =
    all_named rs (noted r s) t (noted-set r s is) h
    ∙ ap (λ (b : Bool). b || any_reaches rs t) (noted-names r s t is h)
    ∙ or_assoc (names s t) (reaches r t) (any_reaches rs t)

-- one reach more at the end
pub all_more : (rs : List Reach) (r : Reach) (s : Touched) → noted_all (rs ++ r ∷ []) s ≡ noted r (noted_all rs s)
unfolding noted_all
all_more [] r s = refl
all_more (q ∷ rs) r s = all_more rs r (noted q s)

-- a reach of nothing names nothing
pub nothing-noted : (s : Touched) → noted (reach_of Nothing) s ≡ s
unfolding noted reach_of
nothing-noted s =
    λ i.
    record {
      registers = s.registers;
      palette = s.palette;
      bank = s.bank;
      pointer = or-false s.pointer i;
      marks = or-false s.marks i;
      toggle = or-false s.toggle i;
    }
