-- The form of the flags is 02's. Assumes nothing.
use Prim.Native.Nat.{ℕ}
use mathlib.Core.Bool.{Bool, true, false, not}
use mathlib.Core.List.{List, [], ◌∷◌, ◌++◌}
use mathlib.Core.Logic.{◌⊎◌, inl, inr, ⊎_elim}
use mathlib.Core.Path.{◌≡◌, refl, ap, ◌∙◌, subst}
use lib.Dec.{T}
use Rattle.modes.specs.declared.mode.Mode.{Mode}
use Rattle.modes.specs.Form.{Axis, Horizontal, Vertical, Flag, other_axis, same_axis, each_once, sign, letter, flag_text, flags_text, minus_of}
use Rattle.modes.specs.Scan.{unflagged, flagged, sync}
use Rattle.modes.proofs.Readers.{Form, EndL, LitL, PickL}
use Rattle.modes.proofs.Forms.{OtherL, AxisL, FlagsL}

-- a mode with the flags of a line
unfoldable pub with_flags : Mode → List Flag → Mode
with_flags m [] = m
with_flags m (f ∷ fs) = with_flags (flagged f.axis f.minus m) fs

-- the byte of one of two things, and then: a sign, or an axis' letter
pub record OneL {A : Type 0} (byte : A → ℕ) (K : A → Form) (s : List ℕ) (o : Mode) : Type 0 where
  pub which : A
  pub rest : List ℕ
  pub text : s ≡ byte which ∷ rest
  pub then : K which rest o

module _ {A : Type 0} (byte : A → ℕ) (K : A → Form) (s : List ℕ) (o : Mode) (a b : A) where
  one-to : PickL (byte a) (byte b) (K a) (K b) s o → OneL byte K s o
  one-to x =
      ⊎_elim (λ y. record { which = a; rest = y.rest; text = y.text; then = y.then })
      (λ y. record { which = b; rest = y.rest; text = y.text; then = y.then }) x

  one-back : (x : OneL byte K s o) → (x.which ≡ a) ⊎ (x.which ≡ b) → PickL (byte a) (byte b) (K a) (K b) s o
  one-back x e =
      ⊎_elim
      (λ h. inl (record { rest = x.rest; text = x.text ∙ ap (λ (w : A). byte w ∷ x.rest) h; then = subst (λ (w : A). K w x.rest o) h x.then }))
      (λ h. inr (record { rest = x.rest; text = x.text ∙ ap (λ (w : A). byte w ∷ x.rest) h; then = subst (λ (w : A). K w x.rest o) h x.then })) e

two-signs : (minus : Bool) → (minus ≡ false) ⊎ (minus ≡ true)
two-signs false = inl refl
two-signs true = inr refl

two-axes : (axis : Axis) → (axis ≡ Horizontal) ⊎ (axis ≡ Vertical)
two-axes Horizontal = inl refl
two-axes Vertical = inr refl

-- flags, of which a test says which, and what a mode is with them
pub record Flagged (test : List Flag → Bool) (m : Mode) (s : List ℕ) (o : Mode) : Type 0 where
  pub flags : List Flag
  pub passed : T (test flags)
  pub text : s ≡ flags_text flags
  pub says : o ≡ with_flags m flags

-- none, or one of an axis
unfoldable pub only : Axis → List Flag → Bool
only axis [] = true
only axis (f ∷ []) = same_axis axis f.axis
only axis (f ∷ g ∷ fs) = false

same_self : (a : Axis) → T (same_axis a a)
unfolding same_axis
same_self Horizontal = tt
same_self Vertical = tt

same-is : (a b : Axis) → T (same_axis a b) → b ≡ a
unfolding same_axis
same-is Horizontal Horizontal t = refl
same-is Horizontal Vertical t = absurd t
same-is Vertical Horizontal t = absurd t
same-is Vertical Vertical t = refl

abbrev sync-of : Axis → Mode → Bool → Form
sync-of axis m minus = LitL (letter axis ∷ sync) (EndL (flagged axis minus m))

other-to : (axis : Axis) (m : Mode) (s : List ℕ) (o : Mode) → OtherL axis m s o → Flagged (only axis) m s o
unfolding only flags_text flag_text with_flags sync sign
other-to axis m s o x =
    ⊎_elim (λ e. record { flags = []; passed = tt; text = e.0; says = e.1 })
    (λ y. let z = one-to sign (sync-of axis m) y.rest o false true y.then in
    record {
      flags = record { axis = axis; minus = z.which } ∷ [];
      passed = same_self axis;
      text = cc (y.text, z.text, z.then.text, z.then.then.0);
      says = z.then.then.1;
    }) x

other-back : (axis : Axis) (m : Mode) (s : List ℕ) (o : Mode) → Flagged (only axis) m s o → OtherL axis m s o
unfolding only flags_text flag_text with_flags sync sign
other-back axis m s o x = by_flags x.flags x.passed x.text x.says
  where
    by_flags : (fs : List Flag) → T (only axis fs) → s ≡ flags_text fs → o ≡ with_flags m fs → OtherL axis m s o
    by_flags [] t e h = inl (e, h)
    by_flags (f ∷ []) t e h =
        inr
        (record {
          rest = sign f.minus ∷ letter axis ∷ sync;
          text = e ∙ ap (λ (a : Axis). 0x20 ∷ sign f.minus ∷ letter a ∷ sync) (same-is axis f.axis t);
          then =
              one-back sign (sync-of axis m) (sign f.minus ∷ letter axis ∷ sync) o false true
              (record {
                which = f.minus;
                rest = letter axis ∷ sync;
                text = refl;
                then =
                    record {
                      rest = [];
                      text = refl;
                      then = (refl, h ∙ ap (λ (a : Axis). flagged a f.minus m) (same-is axis f.axis t));
                    };
              })
              (two-signs f.minus);
        })
    by_flags (f ∷ g ∷ fs) t e h = absurd t

abbrev first_of : Mode → Bool → Axis → Form
first_of m minus axis = LitL sync (OtherL (other_axis axis) (flagged axis minus m))

axes-differ : (a b : Axis) → T (same_axis (other_axis a) b) → T (not (same_axis a b))
unfolding same_axis other_axis
axes-differ Horizontal Horizontal t = absurd t
axes-differ Horizontal Vertical t = tt
axes-differ Vertical Horizontal t = tt
axes-differ Vertical Vertical t = absurd t

axes-other : (a b : Axis) → T (not (same_axis a b)) → T (same_axis (other_axis a) b)
unfolding same_axis other_axis
axes-other Horizontal Horizontal t = absurd t
axes-other Horizontal Vertical t = tt
axes-other Vertical Horizontal t = tt
axes-other Vertical Vertical t = absurd t

once_more : (f : Flag) (fs : List Flag) → T (only (other_axis f.axis) fs) → T (each_once (f ∷ fs))
unfolding only each_once
once_more f [] t = tt
once_more f (g ∷ []) t = axes-differ f.axis g.axis t
once_more f (g ∷ h ∷ fs) t = absurd t

once-less : (f : Flag) (fs : List Flag) → T (each_once (f ∷ fs)) → T (only (other_axis f.axis) fs)
unfolding only each_once
once-less f [] t = tt
once-less f (g ∷ []) t = axes-other f.axis g.axis t
once-less f (g ∷ h ∷ fs) t = absurd t

pub flags-to : (m : Mode) (s : List ℕ) (o : Mode) → FlagsL m s o → Flagged each_once m s o
unfolding each_once flags_text flag_text with_flags sync sign letter other_axis
flags-to m s o x =
    ⊎_elim (λ e. record { flags = []; passed = tt; text = e.0; says = e.1 })
    (λ y. let z = one-to sign (AxisL m) y.rest o false true y.then in
    let w = one-to letter (first_of m z.which) z.rest o Horizontal Vertical z.then in
    let u = other-to (other_axis w.which) (flagged w.which z.which m) w.then.rest o w.then.then in
    record {
      flags = record { axis = w.which; minus = z.which } ∷ u.flags;
      passed = once_more (record { axis = w.which; minus = z.which }) u.flags u.passed;
      text = cc (y.text, z.text, w.text, w.then.text, u.text);
      says = u.says;
    }) x

pub flags-back : (m : Mode) (s : List ℕ) (o : Mode) → Flagged each_once m s o → FlagsL m s o
unfolding each_once flags_text flag_text with_flags sync sign letter other_axis
flags-back m s o x = by_flags x.flags x.passed x.text x.says
  where
    by_flags : (fs : List Flag) → T (each_once fs) → s ≡ flags_text fs → o ≡ with_flags m fs → FlagsL m s o
    by_flags [] t e h = inl (e, h)
    by_flags (f ∷ fs) t e h =
        inr
        (record {
          rest = flag_text f ++ flags_text fs;
          text = e;
          then =
              one-back sign (AxisL m) (flag_text f ++ flags_text fs) o false true
              (record {
                which = f.minus;
                rest = letter f.axis ∷ sync ++ flags_text fs;
                text = refl;
                then =
                    one-back letter (first_of m f.minus) (letter f.axis ∷ sync ++ flags_text fs) o Horizontal Vertical
                    (record {
                      which = f.axis;
                      rest = sync ++ flags_text fs;
                      text = refl;
                      then =
                          record {
                            rest = flags_text fs;
                            text = refl;
                            then =
                                other-back (other_axis f.axis) (flagged f.axis f.minus m) (flags_text fs) o
                                (record { flags = fs; passed = once-less f fs t; text = refl; says = h });
                          };
                    })
                    (two-axes f.axis);
              })
              (two-signs f.minus);
        })

-- what a line says that has these flags
unfoldable pub saying : ℕ → ℕ → List ℕ → List Flag → Mode
saying name khz numbers fs =
    record { name = name; khz = khz; numbers = numbers; h_minus = minus_of Horizontal fs; v_minus = minus_of Vertical fs }

pub flags-say : (name khz : ℕ) (numbers : List ℕ) (fs : List Flag) → T (each_once fs)
    → with_flags (unflagged name khz numbers) fs ≡ saying name khz numbers fs
unfolding with_flags unflagged flagged saying minus_of same_axis each_once
flags-say name khz numbers [] t = refl
flags-say name khz numbers (f ∷ []) t = by-axis f.axis
  where
    by-axis : (a : Axis) → flagged a f.minus (unflagged name khz numbers) ≡ saying name khz numbers (record { axis = a; minus = f.minus } ∷ [])
    by-axis Horizontal = refl
    by-axis Vertical = refl
flags-say name khz numbers (f ∷ g ∷ []) t = by-axes f.axis g.axis t
  where
    by-axes : (a b : Axis) → T (not (same_axis a b)) → flagged b g.minus (flagged a f.minus (unflagged name khz numbers)) ≡ saying name khz numbers (record { axis = a; minus = f.minus } ∷ record { axis = b; minus = g.minus } ∷ [])
    by-axes Horizontal Horizontal u = absurd u
    by-axes Horizontal Vertical u = refl
    by-axes Vertical Horizontal u = refl
    by-axes Vertical Vertical u = absurd u
flags-say name khz numbers (f ∷ g ∷ h ∷ fs) t = absurd t
