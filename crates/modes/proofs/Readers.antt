-- A reader is right for a form: it ends in what the line says, or at the bad place. How that goes from the bytes behind a byte to the bytes from it on.
-- Assumes nothing.
use Prim.Native.Nat.{ℕ}
use mathlib.Core.Bool.{Bool, true, false, cond, ◌&&◌}
use mathlib.Core.List.{List, [], ◌∷◌, ◌++◌}
use mathlib.Core.Logic.{◌⊎◌, inl, inr, ⊎_elim}
use mathlib.Core.Path.{◌≡◌, refl, sym, ap, subst}
use native.Mathlib.Omega.{arith}
use borrow.Author.Tests.{eqb-true, eqb-false}
use lib.Dec.{T, eqb}
use Rattle.bits.proofs.Test.{by-test, left, right, both, passes}
use Rattle.modes.specs.declared.mode.Mode.{Mode}
use Rattle.modes.specs.Place.{BadAt, Says}
use Rattle.modes.specs.Scan.{Outcome, Ok, Err, up, at_end, may_end, lit, pick, Runner, run}

abbrev pub Form : Type 1
Form = List ℕ → Mode → Type 0

abbrev pub RightAt : Outcome → Form → List ℕ → Type 0
RightAt (Ok m) L s = Says L s m
RightAt (Err k) L s = BadAt L s k

abbrev pub Right : (List ℕ → Outcome) → Form → Type 0
Right r L = (s : List ℕ) → RightAt (r s) L s

-- some line is of the form
pub record Live (L : Form) : Type 0 where
  pub text : List ℕ
  pub mode : Mode
  pub good : L text mode

module _ (L : Form) where
  -- a byte that every line from here on may have: what is right behind it is right from it on
  pub further : (A : Form) (b : ℕ) → ((s : List ℕ) (m : Mode) → L (b ∷ s) m → A s m) → ((s : List ℕ) (m : Mode) → A s m → L (b ∷ s) m)
      → (r : Outcome) (s : List ℕ) → RightAt r A s → RightAt (up r) L (b ∷ s)
  unfolding up
  further A b to back (Ok m) s h =
      record { good = back s m h.good; alone = λ o g. h.alone o (to s o g) }
  further A b to back (Err k) s h =
      record {
        within = omega (arith, h.within);
        begun = record { rest = h.begun.rest; mode = h.begun.mode; good = back _ _ h.begun.good };
        stopped = λ l g. h.stopped (omega arith) (record { rest = g.rest; mode = g.mode; good = to _ _ g.good });
        refused = λ m g. h.refused m (to s m g);
      }

  -- a byte that none has
  pub stops : Live L → (b : ℕ) (s : List ℕ) → ((t : List ℕ) (m : Mode) → L (b ∷ t) m → ⊥) → BadAt L (b ∷ s) 0
  stops live b s none =
      record {
        within = omega arith;
        begun = record { rest = live.text; mode = live.mode; good = live.good };
        stopped = λ l g. none _ _ g.good;
        refused = λ m g. none s m g;
      }

  -- an end that none has
  pub ends : Live L → ((m : Mode) → L [] m → ⊥) → BadAt L [] 0
  ends live none =
      record {
        within = omega arith;
        begun = record { rest = live.text; mode = live.mode; good = live.good };
        stopped = λ l g. absurd (omega arith);
        refused = none;
      }

  -- a part of the form that has every line that goes on as this one does
  pub narrowed : (K : Form) → ((s : List ℕ) (m : Mode) → K s m → L s m) → (r : Outcome) (b : ℕ) (s : List ℕ)
      → ((t : List ℕ) (m : Mode) → L (b ∷ t) m → K (b ∷ t) m) → RightAt r K (b ∷ s) → RightAt r L (b ∷ s)
  narrowed K wider (Ok m) b s same h = record { good = wider _ m h.good; alone = λ o g. h.alone o (same s o g) }
  narrowed K wider (Err k) b s same h =
      record {
        within = h.within;
        begun = record { rest = h.begun.rest; mode = h.begun.mode; good = wider _ _ h.begun.good };
        stopped = λ l g. h.stopped l (record { rest = g.rest; mode = g.mode; good = same _ _ g.good });
        refused = λ m g. h.refused m (same s m g);
      }

  -- and where the line ends here
  pub narrowed-end : (K : Form) → ((s : List ℕ) (m : Mode) → K s m → L s m) → (r : Outcome) → ((m : Mode) → L [] m → K [] m)
      → RightAt r K [] → RightAt r L []
  narrowed-end K wider (Ok m) same h = record { good = wider _ m h.good; alone = λ o g. h.alone o (same o g) }
  narrowed-end K wider (Err k) same h =
      record {
        within = h.within;
        begun = record { rest = h.begun.rest; mode = h.begun.mode; good = wider _ _ h.begun.good };
        stopped = λ l g. absurd (omega arith);
        refused = λ m g. h.refused m (same m g);
      }

  -- the same form under another name
  pub recast : (K : Form) → ((s : List ℕ) (m : Mode) → K s m → L s m) → ((s : List ℕ) (m : Mode) → L s m → K s m)
      → (r : Outcome) (s : List ℕ) → RightAt r K s → RightAt r L s
  recast K wider same (Ok m) s h = record { good = wider _ m h.good; alone = λ o g. h.alone o (same s o g) }
  recast K wider same (Err k) s h =
      record {
        within = h.within;
        begun = record { rest = h.begun.rest; mode = h.begun.mode; good = wider _ _ h.begun.good };
        stopped = λ l g. h.stopped l (record { rest = g.rest; mode = g.mode; good = same _ _ g.good });
        refused = λ m g. h.refused m (same s m g);
      }

clash : {A : Type 0} {b : A} {s : List A} → [] ≡ b ∷ s → ⊥
clash e = let z : ◌≡◌ {A = ℕ} 0 1 = cc in omega arith

-- nothing more
abbrev pub EndL : Mode → Form
EndL m s o = (s ≡ []) × (o ≡ m)

pub right_end : (m : Mode) → Right (at_end m) (EndL m)
unfolding at_end
right_end m [] = record { good = (refl, refl); alone = λ o g. g.1 }
right_end m (b ∷ s) = stops (EndL m) (record { text = []; mode = m; good = (refl, refl) }) b s (λ t o g. clash (sym g.0))

-- nothing more, or something
abbrev pub MayEndL : Mode → Form → Form
MayEndL m K s o = EndL m s o ⊎ K s o

pub right-may-end : (m : Mode) (K : Form) (k : List ℕ → Outcome) → ((o : Mode) → K [] o → ⊥) → Right k K → Right (may_end m k) (MayEndL m K)
unfolding may_end
right-may-end m K k some h [] =
    record { good = inl (refl, refl); alone = λ o g. ⊎_elim (λ e. e.1) (λ x. absurd (some o x)) g }
right-may-end m K k some h (b ∷ s) =
    narrowed (MayEndL m K) K (λ t o x. inr x) (k (b ∷ s)) b s (λ t o g. ⊎_elim (λ e. absurd (clash (sym e.0))) (λ x. x) g) (h (b ∷ s))

-- these bytes, and then
pub record LitL (w : List ℕ) (K : Form) (s : List ℕ) (o : Mode) : Type 0 where
  pub rest : List ℕ
  pub text : s ≡ w ++ rest
  pub then : K rest o

pub live-lit : (w : List ℕ) (K : Form) → Live K → Live (LitL w K)
live-lit w K live =
    record { text = w ++ live.text; mode = live.mode; good = record { rest = live.text; text = refl; then = live.good } }

module _ (K : Form) (k : List ℕ → Outcome) (live : Live K) (h : Right k K) where
  pub right-lit : (w : List ℕ) → Right (lit w k) (LitL w K)
  unfolding lit
  right-lit [] s =
      recast (LitL [] K) K (λ t o x. record { rest = t; text = refl; then = x })
      (λ t o x. subst (λ (u : List ℕ). K u o) (sym x.text) x.then) (k s) s (h s)
  right-lit (c ∷ w) [] = ends (LitL (c ∷ w) K) (live-lit (c ∷ w) K live) (λ o x. clash x.text)
  right-lit (c ∷ w) (b ∷ s) = by-test (eqb b c) (there (right-lit w s)) other
    where
      there : RightAt (lit w k s) (LitL w K) s → eqb b c ≡ true → RightAt (cond (eqb b c) (up (lit w k s)) (Err 0)) (LitL (c ∷ w) K) (b ∷ s)
      there behind e =
          rw e
          (further (LitL (c ∷ w) K) (LitL w K) b
          (λ t o x. record { rest = x.rest; text = cc x.text; then = x.then })
          (λ t o x. record { rest = x.rest; text = cc (x.text, eqb-true b c e); then = x.then }) (lit w k s) s behind)

      other : eqb b c ≡ false → RightAt (cond (eqb b c) (up (lit w k s)) (Err 0)) (LitL (c ∷ w) K) (b ∷ s)
      other e =
          rw e (stops (LitL (c ∷ w) K) (live-lit (c ∷ w) K live) b s (λ t o x. eqb-false b c e (cc x.text)))

-- one of two bytes, and then
abbrev pub PickL : ℕ → ℕ → Form → Form → Form
PickL c d K M s o = LitL (c ∷ []) K s o ⊎ LitL (d ∷ []) M s o

module _ (c d : ℕ) (K M : Form) (k l : List ℕ → Outcome) (apart : c ≡ d → ⊥) (live : Live K) (h : Right k K) (g : Right l M) where
  live-pick : Live (PickL c d K M)
  live-pick = record { text = c ∷ live.text; mode = live.mode; good = inl (record { rest = live.text; text = refl; then = live.good }) }

  pub right-pick : Right (pick c d k l) (PickL c d K M)
  unfolding pick
  right-pick [] = ends (PickL c d K M) live-pick (λ o x. ⊎_elim (λ y. clash y.text) (λ y. clash y.text) x)
  right-pick (b ∷ s) = by-test (eqb b c) first (λ e. by-test (eqb b d) (second e) (neither e))
    where
      Goal : Type 0
      Goal = RightAt (cond (eqb b c) (up (k s)) (cond (eqb b d) (up (l s)) (Err 0))) (PickL c d K M) (b ∷ s)

      first : eqb b c ≡ true → Goal
      first e =
          rw e
          (further (PickL c d K M) K b
          (λ t o x. ⊎_elim (λ y. subst (λ (u : List ℕ). K u o) (cc y.text) y.then) (λ y. absurd (apart (cc (y.text, eqb-true b c e)))) x)
          (λ t o x. inl (record { rest = t; text = cc (eqb-true b c e); then = x })) (k s) s (h s))

      second : eqb b c ≡ false → eqb b d ≡ true → Goal
      second n e =
          rw (n, e)
          (further (PickL c d K M) M b
          (λ t o x. ⊎_elim (λ y. absurd (eqb-false b c n (cc y.text))) (λ y. subst (λ (u : List ℕ). M u o) (cc y.text) y.then) x)
          (λ t o x. inr (record { rest = t; text = cc (eqb-true b d e); then = x })) (l s) s (g s))

      neither : eqb b c ≡ false → eqb b d ≡ false → Goal
      neither n e =
          rw (n, e)
          (stops (PickL c d K M) live-pick b s
          (λ t o x. ⊎_elim (λ y. eqb-false b c n (cc y.text)) (λ y. eqb-false b d e (cc y.text)) x))

-- a run of bytes that a state takes, and then, by the state behind it
module _ {Q : Type 0} (r : Runner Q) where
  unfoldable pub walks : Q → List ℕ → Bool
  walks q [] = true
  walks q (b ∷ s) = r.taken q b && walks (r.next q b) s

  unfoldable pub after : Q → List ℕ → Q
  after q [] = q
  after q (b ∷ s) = after (r.next q b) s

  pub record RunL (K : Q → Form) (q : Q) (s : List ℕ) (o : Mode) : Type 0 where
    pub bytes : List ℕ
    pub rest : List ℕ
    pub walked : T (walks q bytes)
    pub text : s ≡ bytes ++ rest
    pub then : K (after q bytes) rest o

  -- what may end a run: a state's own form; or none, where more bytes are wanted
  pub data Ending (K : Q → Form) (k : Q → List ℕ → Outcome) (q : Q) : Type 0 where
    reads : Right (k q) (K q) → Ending K k q
    wants : ((s : List ℕ) (o : Mode) → K q s o → ⊥) → ((s : List ℕ) → k q s ≡ Err 0) → Live (RunL K q) → Ending K k q

  module _ (K : Q → Form) (k : Q → List ℕ → Outcome) (Fine : Q → Type 0)
      (keep : (q : Q) (b : ℕ) → Fine q → T (r.taken q b) → Fine (r.next q b))
      (apart : (q : Q) (b : ℕ) → Fine q → T (r.taken q b) → (s : List ℕ) (o : Mode) → K q (b ∷ s) o → ⊥)
      (ending : (q : Q) → Fine q → Ending K k q) where
    -- a line that goes on with a byte that is not taken has no run here
    no_run : (q : Q) (s : List ℕ) (o : Mode) → RunL K q s o → ((b : ℕ) (t : List ℕ) → s ≡ b ∷ t → T (r.taken q b) → ⊥) → K q s o
    unfolding walks after
    no_run q s o x not = by_bytes x.bytes x.walked x.text x.then
      where
        by_bytes : (d : List ℕ) → T (walks q d) → s ≡ d ++ x.rest → K (after q d) x.rest o → K q s o
        by_bytes [] w e y = subst (λ (u : List ℕ). K q u o) (sym e) y
        by_bytes (b ∷ d) w e y = absurd (not b (d ++ x.rest) e (left (r.taken q b) (walks (r.next q b) d) w))

    at_once : (q : Q) (s : List ℕ) (o : Mode) → K q s o → RunL K q s o
    unfolding walks after
    at_once q s o x = record { bytes = []; rest = s; walked = tt; text = refl; then = x }

    none-taken : (q : Q) (o : Mode) → RunL K q [] o → K q [] o
    none-taken q o x = no_run q [] o x (λ b t e. absurd (clash e))

    run_ends : (q : Q) → Ending K k q → RightAt (k q []) (RunL K q) []
    run_ends q (reads h) = narrowed-end (RunL K q) (K q) (at_once q) (k q []) (none-taken q) (h [])
    run_ends q (wants none e live) = rw (e []) (ends (RunL K q) live (λ o x. none [] o (none-taken q o x)))

    not_taken : (q : Q) (b : ℕ) → r.taken q b ≡ false → (t : List ℕ) (o : Mode) → RunL K q (b ∷ t) o → K q (b ∷ t) o
    not_taken q b n t o x =
        no_run q (b ∷ t) o x (λ c u e y. subst (λ (z : Bool). T z) n (subst (λ (z : ℕ). T (r.taken q z)) (cc e) y))

    run-stops : (q : Q) (b : ℕ) (s : List ℕ) → r.taken q b ≡ false → Ending K k q → RightAt (k q (b ∷ s)) (RunL K q) (b ∷ s)
    run-stops q b s n (reads h) = narrowed (RunL K q) (K q) (at_once q) (k q (b ∷ s)) b s (not_taken q b n) (h (b ∷ s))
    run-stops q b s n (wants none e live) =
        rw (e (b ∷ s)) (stops (RunL K q) live b s (λ t o x. none (b ∷ t) o (not_taken q b n t o x)))

    -- behind a byte that is taken
    is-taken : (q : Q) (b : ℕ) → Fine q → T (r.taken q b) → (t : List ℕ) (o : Mode) → RunL K q (b ∷ t) o → RunL K (r.next q b) t o
    unfolding walks after
    is-taken q b ok y t o x = by_bytes x.bytes x.walked x.text x.then
      where
        by_bytes : (d : List ℕ) → T (walks q d) → b ∷ t ≡ d ++ x.rest → K (after q d) x.rest o → RunL K (r.next q b) t o
        by_bytes [] w e z = absurd (apart q b ok y t o (subst (λ (u : List ℕ). K q u o) (sym e) z))
        by_bytes (c ∷ d) w e z =
            record {
              bytes = d;
              rest = x.rest;
              walked = subst (λ (u : ℕ). T (walks (r.next q u) d)) (cc e) (right (r.taken q c) (walks (r.next q c) d) w);
              text = cc e;
              then = subst (λ (u : ℕ). K (after (r.next q u) d) x.rest o) (cc e) z;
            }

    to_take : (q : Q) (b : ℕ) → T (r.taken q b) → (t : List ℕ) (o : Mode) → RunL K (r.next q b) t o → RunL K q (b ∷ t) o
    unfolding walks after
    to_take q b y t o x =
        record {
          bytes = b ∷ x.bytes;
          rest = x.rest;
          walked = both (r.taken q b) (walks (r.next q b) x.bytes) y x.walked;
          text = ap (λ (u : List ℕ). b ∷ u) x.text;
          then = x.then;
        }

    pub right-run : (q : Q) → Fine q → Right (run r k q) (RunL K q)
    unfolding run
    right-run q ok [] = run_ends q (ending q ok)
    right-run q ok (b ∷ s) =
        by-test (r.taken q b)
        (λ e. rw e
        (further (RunL K q) (RunL K (r.next q b)) b (is-taken q b ok (passes (r.taken q b) e)) (to_take q b (passes (r.taken q b) e))
        (run r k (r.next q b) s) s (right-run (r.next q b) (keep q b ok (passes (r.taken q b) e)) s)))
        (λ e. rw e (run-stops q b s e (ending q ok)))
