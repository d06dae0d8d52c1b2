-- The readers at a place of a line, by what stands there. Assumes nothing.
use Prim.Native.Nat.{ℕ, suc, ◌+◌, ◌≤◌, ◌<◌}
use mathlib.Core.Bool.{Bool, true, false, cond, ◌&&◌, true≢false}
use mathlib.Core.List.{List, [], ◌∷◌}
use mathlib.Core.Path.{◌≡◌, refl, sym, ap, ◌∙◌, subst}
use native.Mathlib.Numerals.{add-one}
use native.Mathlib.Omega.{arith}
use borrow.Author.Tests.{ltb-true, ltb-false, eqb-true, eq-eqb, ne_eqb}
use lib.Dec.{eqb, ltb}
use lib.ListN.{length, get_or, drop, drop_of_length-le}
use lib.Seq.{drop-cons, drop-drop}
use Rattle.bits.proofs.Test.{by-test}
use Rattle.modes.specs.declared.mode.Mode.{Mode}
use Rattle.modes.specs.Scan.{Outcome, Ok, Err, up, at_end, may_end, lit, pick, Runner, run, shift, is_at, matched_in, run_count, run_end}

pub shift-up : (n : ℕ) (r : Outcome) → shift n (up r) ≡ shift (n + 1) r
unfolding shift up
shift-up n (Ok m) = refl
shift-up n (Err k) = ap Err (omega arith)

pub shift_zero : (r : Outcome) → shift 0 r ≡ r
unfolding shift
shift_zero (Ok m) = refl
shift_zero (Err k) = ap Err (omega arith)

pub shift-shift : (n k : ℕ) (r : Outcome) → shift n (shift k r) ≡ shift (n + k) r
unfolding shift
shift-shift n k (Ok m) = refl
shift-shift n k (Err i) = ap Err (omega arith)

shift-bad : (n : ℕ) → shift n (Err 0) ≡ Err n
unfolding shift
shift-bad n = ap Err (omega arith)

-- two tests joined by `&&`
pub and_left : (a b : Bool) → a && b ≡ true → a ≡ true
and_left true b e = refl
and_left false b e = e

pub and_right : (a b : Bool) → a && b ≡ true → b ≡ true
and_right true b e = e
and_right false b e = absurd (true≢false (sym e))

pub and_no : (a b : Bool) → a ≡ true → a && b ≡ false → b ≡ false
and_no true b e n = n
and_no false b e n = absurd (true≢false (sym e))

module _ (line : List ℕ) (at : ℕ) where
  pub more : at < length line → drop at line ≡ get_or line at 0 ∷ drop (at + 1) line
  more h = drop-cons line at 0 h ∙ ap (λ (n : ℕ). get_or line at 0 ∷ drop n line) (sym (add-one at))

  pub none : length line ≤ at → drop at line ≡ []
  none h = drop_of_length-le line h

  pub within : (c : ℕ) → is_at line at c ≡ true → at < length line
  unfolding is_at
  within c e = ltb-true at (length line) (and_left (ltb at (length line)) (eqb (get_or line at 0) c) e)

  -- the byte stands there
  pub there : (c : ℕ) → is_at line at c ≡ true → drop at line ≡ c ∷ drop (at + 1) line
  unfolding is_at
  there c e =
      more (within c e)
      ∙ ap (λ (b : ℕ). b ∷ drop (at + 1) line) (eqb-true (get_or line at 0) c (and_right (ltb at (length line)) (eqb (get_or line at 0) c) e))

  -- what a reader answers that looks for a byte which does not stand there
  pub not_there : (P : List ℕ → Type 0) (c : ℕ) → is_at line at c ≡ false → P [] → ((b : ℕ) (s : List ℕ) → drop at line ≡ b ∷ s → eqb b c ≡ false → P (b ∷ s)) → P (drop at line)
  unfolding is_at
  not_there P c n p q =
      by-test (ltb at (length line))
      (λ h. subst P (sym (more (ltb-true at (length line) h)))
      (q (get_or line at 0) (drop (at + 1) line) (more (ltb-true at (length line) h)) (and_no (ltb at (length line)) (eqb (get_or line at 0) c) h n)))
      (λ h. subst P (sym (none (ltb-false at (length line) h))) p)

  pub lit-there : (c : ℕ) (w : List ℕ) (k : List ℕ → Outcome) → is_at line at c ≡ true
      → shift at (lit (c ∷ w) k (drop at line)) ≡ shift (at + 1) (lit w k (drop (at + 1) line))
  unfolding lit
  lit-there c w k e =
      ap (λ (s : List ℕ). shift at (lit (c ∷ w) k s)) (there c e)
      ∙ ap (λ (b : Bool). shift at (cond b (up (lit w k (drop (at + 1) line))) (Err 0))) (eq-eqb c c refl)
      ∙ shift-up at (lit w k (drop (at + 1) line))

  pub lit-not : (c : ℕ) (w : List ℕ) (k : List ℕ → Outcome) → is_at line at c ≡ false → shift at (lit (c ∷ w) k (drop at line)) ≡ Err at
  unfolding lit
  lit-not c w k n =
      not_there (λ s. shift at (lit (c ∷ w) k s) ≡ Err at) c n (shift-bad at)
      (λ b s d e. ap (λ (x : Bool). shift at (cond x (up (lit w k s)) (Err 0))) e ∙ shift-bad at)

  module _ (c d : ℕ) (k l : List ℕ → Outcome) where
    pub pick_first : is_at line at c ≡ true → shift at (pick c d k l (drop at line)) ≡ shift (at + 1) (k (drop (at + 1) line))
    unfolding pick
    pick_first e =
        ap (λ (s : List ℕ). shift at (pick c d k l s)) (there c e)
        ∙ ap (λ (b : Bool). shift at (cond b (up (k (drop (at + 1) line))) (cond (eqb c d) (up (l (drop (at + 1) line))) (Err 0)))) (eq-eqb c c refl)
        ∙ shift-up at (k (drop (at + 1) line))

    pub pick_second : (d ≡ c → ⊥) → is_at line at d ≡ true → shift at (pick c d k l (drop at line)) ≡ shift (at + 1) (l (drop (at + 1) line))
    unfolding pick
    pick_second apart e =
        ap (λ (s : List ℕ). shift at (pick c d k l s)) (there d e)
        ∙ ap (λ (b : Bool). shift at (cond b (up (k (drop (at + 1) line))) (cond (eqb d d) (up (l (drop (at + 1) line))) (Err 0)))) (ne_eqb d c apart)
        ∙ ap (λ (b : Bool). shift at (cond b (up (l (drop (at + 1) line))) (Err 0))) (eq-eqb d d refl)
        ∙ shift-up at (l (drop (at + 1) line))

    -- the first isn't there: the second, and then, is all that is left
    pub pick_other : is_at line at c ≡ false → shift at (pick c d k l (drop at line)) ≡ shift at (lit (d ∷ []) l (drop at line))
    unfolding pick lit
    pick_other n =
        not_there (λ s. shift at (pick c d k l s) ≡ shift at (lit (d ∷ []) l s)) c n refl
        (λ b s u e. ap (λ (x : Bool). shift at (cond x (up (k s)) (cond (eqb b d) (up (l s)) (Err 0)))) e)

  pub may-end : (m : Mode) (k : List ℕ → Outcome) → length line ≤ at → shift at (may_end m k (drop at line)) ≡ Ok m
  unfolding may_end shift
  may-end m k h = ap (λ (s : List ℕ). shift at (may_end m k s)) (none h)

  pub may_more : (m : Mode) (k : List ℕ → Outcome) → at < length line → shift at (may_end m k (drop at line)) ≡ shift at (k (drop at line))
  unfolding may_end
  may_more m k h =
      ap (λ (s : List ℕ). shift at (may_end m k s)) (more h) ∙ ap (λ (s : List ℕ). shift at (k s)) (sym (more h))

  pub end-there : (m : Mode) → length line ≤ at → shift at (at_end m (drop at line)) ≡ Ok m
  unfolding at_end shift
  end-there m h = ap (λ (s : List ℕ). shift at (at_end m s)) (none h)

  pub end-not : (m : Mode) → at < length line → shift at (at_end m (drop at line)) ≡ Err at
  unfolding at_end
  end-not m h = ap (λ (s : List ℕ). shift at (at_end m s)) (more h) ∙ shift-bad at

up-shift : (n : ℕ) (r : Outcome) → up (shift n r) ≡ shift (suc n) r
unfolding shift up
up-shift n (Ok m) = refl
up-shift n (Err k) = ap Err (omega arith)

-- a word
lit-whole : (w : List ℕ) (k : List ℕ → Outcome) (s : List ℕ) → matched_in w s ≡ length w → lit w k s ≡ shift (length w) (k (drop (length w) s))
unfolding lit matched_in
lit-whole [] k s e = sym (shift_zero (k s))
lit-whole (c ∷ w) k [] e = absurd (omega (arith, e))
lit-whole (c ∷ w) k (b ∷ s) e =
    by-test (eqb b c)
    (λ t. rw t (ap up (lit-whole w k s (let z : suc (matched_in w s) ≡ suc (length w) = subst (λ (x : Bool). cond x (suc (matched_in w s)) 0 ≡ suc (length w)) t e in omega (arith, z)))
    ∙ up-shift (length w) (k (drop (length w) s))))
    (λ t. absurd (let z : 0 ≡ suc (length w) = subst (λ (x : Bool). cond x (suc (matched_in w s)) 0 ≡ suc (length w)) t e in omega (arith, z)))

lit-part : (w : List ℕ) (k : List ℕ → Outcome) (s : List ℕ) → matched_in w s < length w → lit w k s ≡ Err (matched_in w s)
unfolding lit matched_in up
lit-part [] k s h = absurd (omega (arith, h))
lit-part (c ∷ w) k [] h = refl
lit-part (c ∷ w) k (b ∷ s) h =
    by-test (eqb b c)
    (λ t. rw t (ap up (lit-part w k s (let z : suc (matched_in w s) < suc (length w) = subst (λ (x : Bool). cond x (suc (matched_in w s)) 0 < suc (length w)) t h in omega (arith, z)))))
    (λ t. rw t)

module _ (line : List ℕ) (at : ℕ) (w : List ℕ) (k : List ℕ → Outcome) where
  pub word-whole : matched_in w (drop at line) ≡ length w
      → shift at (lit w k (drop at line)) ≡ shift (at + length w) (k (drop (at + length w) line))
  word-whole e =
      ap (shift at) (lit-whole w k (drop at line) e)
      ∙ shift-shift at (length w) (k (drop (length w) (drop at line)))
      ∙ ap (λ (s : List ℕ). shift (at + length w) (k s)) (drop-drop (length w) at line)

  pub word-part : matched_in w (drop at line) < length w → shift at (lit w k (drop at line)) ≡ Err (at + matched_in w (drop at line))
  unfolding shift
  word-part h = ap (shift at) (lit-part w k (drop at line) h)

pub matched-most : (w s : List ℕ) → matched_in w s ≤ length w
unfolding matched_in
matched-most [] s = omega arith
matched-most (c ∷ w) [] = omega arith
matched-most (c ∷ w) (b ∷ s) =
    by-test (eqb b c) (λ t. rw t (omega (arith, matched-most w s))) (λ t. rw t (omega arith))

-- a run
module _ {Q : Type 0} (r : Runner Q) where
  run-counted : (k : Q → List ℕ → Outcome) (q : Q) (s : List ℕ) → run r k q s ≡ shift (run_count r q s) (k (run_end r q s) (drop (run_count r q s) s))
  unfolding run run_count run_end
  run-counted k q [] = sym (shift_zero (k q []))
  run-counted k q (b ∷ s) =
      by-test (r.taken q b)
      (λ e. rw e (ap up (run-counted k (r.next q b) s)
      ∙ up-shift (run_count r (r.next q b) s) (k (run_end r (r.next q b) s) (drop (run_count r (r.next q b) s) s))))
      (λ e. rw e (sym (shift_zero (k q (b ∷ s)))))

  pub run_at : (k : Q → List ℕ → Outcome) (q : Q) (line : List ℕ) (at : ℕ)
      → shift at (run r k q (drop at line))
      ≡ shift (at + run_count r q (drop at line)) (k (run_end r q (drop at line)) (drop (at + run_count r q (drop at line)) line))
  run_at k q line at =
      ap (shift at) (run-counted k q (drop at line))
      ∙ shift-shift at (run_count r q (drop at line)) (k (run_end r q (drop at line)) (drop (run_count r q (drop at line)) (drop at line)))
      ∙ ap (λ (s : List ℕ). shift (at + run_count r q (drop at line)) (k (run_end r q (drop at line)) s)) (drop-drop (run_count r q (drop at line)) at line)
