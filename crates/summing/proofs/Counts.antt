-- Counting the numbers that moved, and tables of which no such element is. Assumes nothing.
use Prim.Native.Nat.{ℕ, ◌+◌, ◌≤◌}
use mathlib.Core.Bool.{Bool, true, false, cond, not}
use mathlib.Core.List.{List, [], ◌∷◌, ◌++◌}
use mathlib.Core.Path.{◌≡◌, refl, sym, ap₂, ◌∙◌}
use native.Mathlib.Omega.{arith}
use borrow.Author.Tests.{ne_eqb}
use lib.Dec.{eqb}
use lib.ListN.{length}
use lib.Seq.{set_out}
use Rattle.std.specs.List.{count_by, zip}
use Rattle.std.proofs.lemmas.List.Sums.{sum_by-cons}
use Rattle.file.specs.declared.registers.File.{File}
use Rattle.file.specs.Registers.{register_count}
use Rattle.access.specs.declared.record.Item.{Item}
use Rattle.trace.specs.Run.{file_after}
use Rattle.text.specs.Lent.{Wrote}
use Rattle.explaining.specs.declared.explain.Case.{Case}
use Rattle.explaining.specs.Lines.{lines_of}
use Rattle.summing.specs.declared.summary.Summary.{Summary}
use Rattle.summing.specs.Summed.{code_count, coded, reached, summed, taken_all, taken_in}
use Rattle.summing.specs.Together.{differing, moved_count, together, together_count, together_line, together_text}

-- the numbers that moved are the pairs that differ
pub moved_counted : (old new : List ℕ) → moved_count old new ≡ count_by (λ x. not (eqb x.0 x.1)) (zip old new)
unfolding moved_count differing
moved_counted [] new = refl
moved_counted (x ∷ old) [] = refl
moved_counted (x ∷ old) (y ∷ new) =
    ap₂ (λ (a b : ℕ). a + b) (told (eqb x y)) (moved_counted old new)
    ∙ sym (sum_by-cons (λ z. cond (not (eqb z.0 z.1)) 1 0) (x, y) (zip old new))
  where
    told : (b : Bool) → ◌≡◌ {A = ℕ} (cond b 0 1) (cond (not b) 1 0)
    told true = refl
    told false = refl

-- a register, or a code, that there isn't
pub no_register : (s : Summary) (number bits moved : ℕ) → (bits ≡ 0 → ⊥) → length s.writes ≡ register_count → length s.reaches ≡ register_count
    → length s.moved ≡ register_count → register_count ≤ number → s ≡ reached s number bits moved
unfolding reached
no_register s number bits moved n w r m h =
    rw (ne_eqb bits 0 n, set_out s.writes number _ (omega (arith, w, h)), set_out s.reaches number _ (omega (arith, r, h)), set_out s.moved number _ (omega (arith, m, h)))
    refl

pub no_code : (s : Summary) (code : ℕ) → length s.codes ≡ code_count → code_count ≤ code → s ≡ coded s code
unfolding coded
no_code s code l h = rw (set_out s.codes code _ (omega (arith, l, h))) refl

-- a trace, and one record more: `take_in` is the step
pub taken-on : (s : Summary) (f : File) (items : List Item) (i : Item) → taken_all s f (items ++ (i ∷ [])) ≡ taken_in (taken_all s f items) (file_after f items) i
unfolding taken_all file_after
taken-on s f [] i = refl
taken-on s f (x ∷ items) i = taken-on (taken_in s f x) _ items i

pub summed-on : (f : File) (items : List Item) (i : Item) → summed f (items ++ (i ∷ [])) ≡ taken_in (summed f items) (file_after f items) i
unfolding summed
summed-on f items i = taken-on _ f items i

-- what moved together, told where two or more did
pub moved_told : (c : Case) (before after : List ℕ) (at end : ℕ) → together c ≡ true → Wrote before at (lines_of (together_line c) 0 together_count) after end
    → Wrote before at (together_text c) after end
unfolding together_text
moved_told c before after at end e w = rw e w

pub none_told : (c : Case) (before : List ℕ) (at : ℕ) → together c ≡ false → Wrote before at (together_text c) before at
unfolding together_text
none_told c before at e = rw e (record { bytes = refl; place = omega arith })
