-- Code 20 exactly where two files differ outside the set: the test says the same as the statement thing by thing. Assumes nothing.
use Prim.Native.Nat.{ℕ, zero, suc, ◌<◌}
use mathlib.Core.Path.{◌≡◌, refl}
use mathlib.Core.Bool.{Bool, true, false, true≢false, ◌&&◌, ◌||◌}
use native.Mathlib.Omega.{arith}
use lib.Dec.{T, eqb, eqb→eq, eqb_refl}
use lib.ListN.{get_or}
use Rattle.bits.specs.Every.{every_below}
use Rattle.bits.proofs.Test.{left, right, both, is_true, below}
use Rattle.file.specs.declared.palette.Colour.{Colour}
use Rattle.file.specs.declared.palette.Pointer.{Pointer}
use Rattle.file.specs.declared.registers.File.{File}
use Rattle.file.specs.File.{register, black, palette_count, bank_count}
use Rattle.file.specs.Registers.{register_count}
use Rattle.touched.specs.declared.set.Touched.{Touched}
use Rattle.touched.specs.Outside.{same_bools, same_colour, same_pointer, register_agrees, palette_agrees, bank_agrees, agrees_at, state_agrees, agrees_outside, SameElsewhere}

-- ---- the tests of single parts

same_bool : (a b : Bool) → T (same_bools a b) → a ≡ b
unfolding same_bools
same_bool true true t = refl
same_bool true false t = absurd t
same_bool false true t = absurd t
same_bool false false t = refl

bool_same : (a : Bool) → T (same_bools a a)
unfolding same_bools
bool_same true = tt
bool_same false = tt

same-colour : (c d : Colour) → T (same_colour c d) → c ≡ d
unfolding same_colour
same-colour c d t =
    let red = eqb→eq c.red d.red (search (left, right)) in
    let green = eqb→eq c.green d.green (search (left, right)) in
    let blue = eqb→eq c.blue d.blue (search (left, right)) in
    λ i. record { red = red i; green = green i; blue = blue i }

number_same : (n : ℕ) → eqb n n ≡ true
number_same n = is_true (eqb n n) (eqb_refl n)

colour-same : (c : Colour) → T (same_colour c c)
unfolding same_colour
colour-same c = simp number_same tt

same-pointer : (p q : Pointer) → T (same_pointer p q) → p ≡ q
unfolding same_pointer
same-pointer p q t =
    let address = eqb→eq p.address q.address (search (left, right)) in
    let reading = same_bool p.reading q.reading (search (left, right)) in
    let next = eqb→eq p.next q.next (search (left, right)) in
    let red = eqb→eq p.red q.red (search (left, right)) in
    let green = eqb→eq p.green q.green (search (left, right)) in
    λ i. record { address = address i; reading = reading i; next = next i; red = red i; green = green i }

pointer-same : (p : Pointer) → T (same_pointer p p)
unfolding same_pointer
pointer-same p = rw (number_same p.address, is_true (same_bools p.reading p.reading) (bool_same p.reading), number_same p.next, number_same p.red, number_same p.green) tt

-- ---- the whole

-- named, or the test passes
unless : (named test : Bool) → T (named || test) → named ≡ false → T test
unless true test t e = absurd (true≢false e)
unless false test t e = t

or_same : (named test : Bool) → (named ≡ false → T test) → T (named || test)
or_same true test h = tt
or_same false test h = h refl

each_below : (test : ℕ → Bool) (k : ℕ) → ((n : ℕ) → n < k → T (test n)) → T (every_below test k)
unfolding every_below
each_below test zero h = tt
each_below test (suc k) h = both (test k) (every_below test k) (h k (omega arith)) (each_below test k (λ n small. h n (omega arith)))

module _ (s : Touched) (f w : File) where
  pub agrees-elsewhere : T (agrees_outside s f w) → SameElsewhere s f w
  unfolding agrees_outside register_agrees palette_agrees bank_agrees state_agrees agrees_at register
  agrees-elsewhere t =
      record {
        registers = λ n h e. eqb→eq (register f n) (register w n) (unless (get_or s.registers n false) _ (below (register_agrees s f w) register_count (search (left, right)) n h) e);
        palette = λ n h e. same-colour (get_or f.palette n black) (get_or w.palette n black) (unless (get_or s.palette n false) _ (below (palette_agrees s f w) palette_count (search (left, right)) n h) e);
        bank = λ n h e. same-colour (get_or f.bank n black) (get_or w.bank n black) (unless (get_or s.bank n false) _ (below (bank_agrees s f w) bank_count (search (left, right)) n h) e);
        pointer = λ e. same-pointer f.state.pointer w.state.pointer (unless s.pointer (same_pointer f.state.pointer w.state.pointer) (search (left, right)) e);
        marks = λ e. eqb→eq f.state.marks w.state.marks (unless s.marks (eqb f.state.marks w.state.marks) (search (left, right)) e);
        toggle = λ e. same_bool f.state.toggle w.state.toggle (unless s.toggle (same_bools f.state.toggle w.state.toggle) (search (left, right)) e);
      }

  -- and the other way
  registers-agree : SameElsewhere s f w → T (every_below (register_agrees s f w) register_count)
  unfolding register_agrees agrees_at register
  registers-agree same =
      each_below (register_agrees s f w) register_count
      (λ n h. or_same (get_or s.registers n false) (eqb (register f n) (register w n)) (λ e. rw (same.registers n h e) (eqb_refl (register w n))))

  palette-agrees : SameElsewhere s f w → T (every_below (palette_agrees s f w) palette_count)
  unfolding palette_agrees agrees_at
  palette-agrees same =
      each_below (palette_agrees s f w) palette_count
      (λ n h. or_same (get_or s.palette n false) (same_colour (get_or f.palette n black) (get_or w.palette n black))
      (λ e. rw (same.palette n h e) (colour-same (get_or w.palette n black))))

  bank-agrees : SameElsewhere s f w → T (every_below (bank_agrees s f w) bank_count)
  unfolding bank_agrees agrees_at
  bank-agrees same =
      each_below (bank_agrees s f w) bank_count
      (λ n h. or_same (get_or s.bank n false) (same_colour (get_or f.bank n black) (get_or w.bank n black))
      (λ e. rw (same.bank n h e) (colour-same (get_or w.bank n black))))

  state-agrees : SameElsewhere s f w → T (state_agrees s f w)
  unfolding state_agrees
  state-agrees same =
      both ((s.pointer || same_pointer f.state.pointer w.state.pointer) && (s.marks || eqb f.state.marks w.state.marks))
      (s.toggle || same_bools f.state.toggle w.state.toggle)
      (both (s.pointer || same_pointer f.state.pointer w.state.pointer) (s.marks || eqb f.state.marks w.state.marks)
      (or_same s.pointer (same_pointer f.state.pointer w.state.pointer) (λ e. rw (same.pointer e) (pointer-same w.state.pointer)))
      (or_same s.marks (eqb f.state.marks w.state.marks) (λ e. rw (same.marks e) (eqb_refl w.state.marks))))
      (or_same s.toggle (same_bools f.state.toggle w.state.toggle) (λ e. rw (same.toggle e) (bool_same w.state.toggle)))

  pub elsewhere-agrees : SameElsewhere s f w → T (agrees_outside s f w)
  unfolding agrees_outside
  elsewhere-agrees same =
      rw (
        is_true (every_below (register_agrees s f w) register_count) (registers-agree same),
        is_true (every_below (palette_agrees s f w) palette_count) (palette-agrees same),
        is_true (every_below (bank_agrees s f w) bank_count) (bank-agrees same),
      )
      (state-agrees same)

-- a file differs from itself nowhere
pub itself-agrees : (s : Touched) (w : File) → T (agrees_outside s w w)
itself-agrees s w =
    elsewhere-agrees s w w
    (record {
      registers = λ n h e. refl;
      palette = λ n h e. refl;
      bank = λ n h e. refl;
      pointer = λ e. refl;
      marks = λ e. refl;
      toggle = λ e. refl;
    })
