-- Tests: joined by `&&`, chosen by, as equations, and of every number below another. Assumes nothing.
use Rattle.std.proofs.Common.{◌≡◌, ℕ, zero, suc, ◌<◌, Bool, true, false, cond, not, ◌&&◌, ◌||◌, T, eqb, sym, refl, subst, true≢false, arith, eqb-true}
use borrow.Author.Tests.{eqb-false}
unfoldable pub use Rattle.bits.specs.Every.{every_below}

pub left : (a b : Bool) → T (a && b) → T a
left true b t = tt
left false b t = t

pub right : (a b : Bool) → T (a && b) → T b
right true b t = t
right false b t = absurd t

pub both : (a b : Bool) → T a → T b → T (a && b)
both true b s t = t
both false b s t = s

pub and_assoc : (a b c : Bool) → ((a && b) && c) ≡ (a && (b && c))
and_assoc true b c = refl
and_assoc false b c = refl

pub and-true : (a : Bool) → (a && true) ≡ a
and-true true = refl
and-true false = refl

-- what both choices pass, the one chosen passes
pub chosen : {A : Type 0} (P : A → Bool) (b : Bool) (x y : A) → T (P x) → T (P y) → T (P (cond b x y))
chosen P true x y p q = p
chosen P false x y p q = q

-- and the first need pass only where it is chosen
pub chosen_by : {A : Type 0} (P : A → Bool) (b : Bool) (x y : A) → (b ≡ true → T (P x)) → T (P y) → T (P (cond b x y))
chosen_by P true x y p q = p refl
chosen_by P false x y p q = q

-- a test is true or false
pub by-test : {A : Type 0} (b : Bool) → (b ≡ true → A) → (b ≡ false → A) → A
by-test true p q = p refl
by-test false p q = q refl

-- a test that passes is true
pub is_true : (b : Bool) → T b → b ≡ true
is_true true t = refl
is_true false t = absurd t

pub passes : (b : Bool) → b ≡ true → T b
passes b e = subst (λ (x : Bool). T x) (sym e) tt

-- of two tests joined by `||`, the second passes where the first does not
pub either : (a b : Bool) → T (a || b) → (T a → ⊥) → T b
either true b t n = absurd (n tt)
either false b t n = t

pub second : (a b : Bool) → T b → T (a || b)
second true b t = tt
second false b t = t

pub or-false : (b : Bool) → b || false ≡ b
or-false true = refl
or-false false = refl

pub or_left : (a b : Bool) → a || b ≡ false → a ≡ false
or_left true b e = e
or_left false b e = refl

pub and-false : (b : Bool) → b && false ≡ false
and-false true = refl
and-false false = refl

pub or_right : (a b : Bool) → a || b ≡ false → b ≡ false
or_right true b e = absurd (true≢false e)
or_right false b e = e

-- where two tests joined by `||` do not pass, neither does
pub neither : (a b : Bool) → T (not (a || b)) → T (not a) × T (not b)
neither true b t = absurd t
neither false b t = (tt, t)

pub twice : (b : Bool) → T (not (not b)) → T b
twice true t = tt
twice false t = absurd t

-- a test that passes at every number below another passes at each
pub below : (test : ℕ → Bool) (k : ℕ) → T (every_below test k) → (n : ℕ) → n < k → T (test n)
unfolding every_below
below test zero t n h = absurd (omega arith)
below test (suc k) t n h =
    by-test (eqb n k)
    (λ e. rw (eqb-true n k e) (left (test k) (every_below test k) t))
    (λ e. below test k (right (test k) (every_below test k) t) n (omega (arith, eqb-false n k e)))
