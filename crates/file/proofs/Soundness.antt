-- Soundness is kept: by a store within the stored bits, by every step of the pointer, and so by an effect made of these.
-- Assumes nothing.
use Prim.Native.Nat.{ℕ, zero, suc, ◌+◌, ◌/◌, ◌%◌, ◌<◌, ◌≤◌}
use mathlib.Core.Path.{◌≡◌, refl, sym, ap, ap₂, ◌∙◌, subst}
use mathlib.Core.Bool.{Bool, true, false, cond, not, ◌&&◌}
use mathlib.Core.List.{List, [], ◌∷◌}
use mathlib.Core.Logic.{◌⊎◌, inl, inr}
use native.Mathlib.Numerals.{add-one}
use native.Mathlib.Omega.{arith}
use borrow.Author.Tests.{eqb-true, eqb-false}
use lib.Bits.{bit_or, bit_xor}
use lib.Dec.{T, eqb, leb, leb→le}
use lib.ListN.{get_or, set, drop, length, drop_of_length-le}
use lib.Seq.{drop-cons}
use Rattle.bits.specs.Store.{store, within}
use Rattle.bits.proofs.Stored.{store-within, within-le, none_or, none-stray}
use Rattle.bits.proofs.Test.{left, right, both, by-test, and_assoc, and-true}
use Rattle.file.specs.declared.chip.Chip.{Chip}
use Rattle.file.specs.declared.chip.Chip.TheVariants.{Gd5462, Gd5464}
use Rattle.file.specs.declared.effect.Effect.{Effect}
use Rattle.file.specs.declared.effect.Effect.TheVariants.{Nothing, Store, Toggle, Move, Step, Paint, Pass}
use Rattle.file.specs.declared.palette.Colour.{Colour}
use Rattle.file.specs.declared.palette.Pointer.{Pointer}
use Rattle.file.specs.declared.registers.File.{File}
use Rattle.file.specs.declared.state.State.{State}
use Rattle.file.specs.Chips.{v_port_at_power_on}
use Rattle.file.specs.Effects.{apply, store_in, paint_in}
use Rattle.file.specs.File.{register, power_on}
use Rattle.file.specs.Palette.{by_colour, addressed, moved, after_write, after_read, marks_of, marked_read, marked_colour, marks_from, marks_sound, pointer_sound}
use Rattle.file.specs.Registers.{register_count, stored_bits, stored_table}
use Rattle.file.specs.Sound.{all_within, sound, keeps}
use Rattle.file.specs.State.{pointing, stepping, toggling, passing, last_line, state_sound}

-- a register of a sound file is within its row
pub at : (table values : List ℕ) (number : ℕ) → T (all_within table values) → T (within (get_or table number 0) (get_or values number 0))
unfolding all_within within store
at [] [] number t = tt
at [] (value ∷ values) number t = absurd t
at (stored ∷ table) [] number t = absurd t
at (stored ∷ table) (value ∷ values) zero t = left (within stored value) (all_within table values) t
at (stored ∷ table) (value ∷ values) (suc number) t = at table values number (right (within stored value) (all_within table values) t)

-- the registers from one on are within their rows if that one is and those behind it are
from : (table values : List ℕ) (number : ℕ) → number < length table → number < length values
    → all_within (drop number table) (drop number values)
    ≡ (within (get_or table number 0) (get_or values number 0) && all_within (drop (number + 1) table) (drop (number + 1) values))
unfolding all_within
from table values number t v =
    ap₂ all_within (drop-cons table number 0 t) (drop-cons values number 0 v)
    ∙ ap (λ (n : ℕ). within (get_or table number 0) (get_or values number 0) && all_within (drop n table) (drop n values)) (sym (add-one number))

-- the stray bits so far, and the registers from one on, tell whether all are within: one register more
pub stray-next : (table values : List ℕ) (number stray more : ℕ) → number < length table → number < length values
    → more ≡ bit_xor (get_or values number 0) (store (get_or table number 0) 0 (get_or values number 0))
    → (eqb (bit_or stray more) 0 && all_within (drop (number + 1) table) (drop (number + 1) values))
    ≡ (eqb stray 0 && all_within (drop number table) (drop number values))
stray-next table values number stray more t v e =
    ap (λ (b : Bool). b && rest) (none_or stray more ∙ ap (λ (b : Bool). eqb stray 0 && b) (none-stray (get_or table number 0) (get_or values number 0) more e))
    ∙ and_assoc (eqb stray 0) (within (get_or table number 0) (get_or values number 0)) rest
    ∙ ap (λ (b : Bool). eqb stray 0 && b) (sym (from table values number t v))
  where
    rest : Bool
    rest = all_within (drop (number + 1) table) (drop (number + 1) values)

-- and none left
pub stray-last : (table values : List ℕ) (number stray : ℕ) → length table ≤ number → length values ≤ number
    → (eqb stray 0 && all_within (drop number table) (drop number values)) ≡ eqb stray 0
unfolding all_within
stray-last table values number stray t v =
    ap₂ (λ (rows registers : List ℕ). eqb stray 0 && all_within rows registers) (drop_of_length-le table t) (drop_of_length-le values v)
    ∙ and-true (eqb stray 0)

-- the same of what is left of both: a register more
pub stray-more : (stored value stray more : ℕ) (table values : List ℕ) → more ≡ bit_xor value (store stored 0 value)
    → (eqb (bit_or stray more) 0 && all_within table values) ≡ (eqb stray 0 && all_within (stored ∷ table) (value ∷ values))
unfolding all_within
stray-more stored value stray more table values e =
    ap (λ (b : Bool). b && all_within table values) (none_or stray more ∙ ap (λ (b : Bool). eqb stray 0 && b) (none-stray stored value more e))
    ∙ and_assoc (eqb stray 0) (within stored value) (all_within table values)

-- and nothing left of either
pub stray-over : (table values : List ℕ) → length table ≡ length values → (length table ≡ 0) ⊎ (length values ≡ 0) → all_within table values ≡ true
unfolding all_within
stray-over [] [] e over = refl
stray-over [] (value ∷ values) e over = absurd (omega arith)
stray-over (stored ∷ table) [] e over = absurd (omega arith)
stray-over (stored ∷ table) (value ∷ values) e (inl z) = absurd (omega arith)
stray-over (stored ∷ table) (value ∷ values) e (inr z) = absurd (omega arith)

-- and may take another value that is
pub set-within : (table values : List ℕ) (number new : ℕ)
    → T (all_within table values) → T (within (get_or table number 0) new) → T (all_within table (set values number new))
unfolding all_within
set-within [] [] number new t w = tt
set-within [] (value ∷ values) number new t w = absurd t
set-within (stored ∷ table) [] number new t w = absurd t
set-within (stored ∷ table) (value ∷ values) zero new t w =
    both (within stored new) (all_within table values) w (right (within stored value) (all_within table values) t)
set-within (stored ∷ table) (value ∷ values) (suc number) new t w =
    both (within stored value) (all_within table (set values number new))
    (left (within stored value) (all_within table values) t)
    (set-within table values number new (right (within stored value) (all_within table values) t) w)

-- there are as many registers as rows
within_count : (table values : List ℕ) → T (all_within table values) → length values ≡ length table
unfolding all_within
within_count [] [] t = refl
within_count [] (value ∷ values) t = absurd t
within_count (stored ∷ table) [] t = absurd t
within_count (stored ∷ table) (value ∷ values) t = ap suc (within_count table values (right (within stored value) (all_within table values) t))

-- writing an address leaves a sound pointer
pub addressed-sound : (reading : Bool) (address : ℕ) → T (pointer_sound (addressed reading address))
unfolding pointer_sound addressed
addressed-sound reading address = tt

-- a move from red to green takes no green along
green-free : (address : ℕ) (reading : Bool) (next red green : ℕ)
    → T (pointer_sound (record { address = address; reading = reading; next = next; red = red; green = green }))
    → T (by_colour next (eqb green 0) true true)
unfolding pointer_sound
green-free address reading zero red green t = left (eqb green 0) (eqb red 0) t
green-free address reading (suc zero) red green t = tt
green-free address reading (suc (suc next)) red green t = tt

move-sound : (address : ℕ) (reading : Bool) (next r g red green : ℕ) → T (by_colour next (eqb green 0) true true)
    → T (pointer_sound (moved (record { address = address; reading = reading; next = next; red = r; green = g }) red green))
unfolding pointer_sound moved
move-sound address reading zero r g red green t = both (eqb green 0) true t tt
move-sound address reading (suc zero) r g red green t = tt
move-sound address reading (suc (suc next)) r g red green t = tt

-- at red, what a write holds as green is what was held
green-kept : (next green byte : ℕ) → by_colour next (eqb green 0) true true ≡ by_colour next (eqb (by_colour next green byte green) 0) true true
green-kept zero green byte = refl
green-kept (suc zero) green byte = refl
green-kept (suc (suc next)) green byte = refl

-- so do a pixel data write
pub after_write-sound : (p : Pointer) (byte : ℕ) → T (pointer_sound p) → T (pointer_sound (after_write p byte))
unfolding after_write
after_write-sound p byte t =
    move-sound p.address p.reading p.next p.red p.green
    (by_colour p.next byte p.red p.red) (by_colour p.next p.green byte p.green)
    (subst (λ (b : Bool). T b) (green-kept p.next p.green byte) (green-free p.address p.reading p.next p.red p.green t))

-- and a pixel data read
pub after_read-sound : (p : Pointer) → T (pointer_sound p) → T (pointer_sound (after_read p))
unfolding after_read
after_read-sound p t =
    move-sound p.address p.reading p.next p.red p.green p.red p.green
    (green-free p.address p.reading p.next p.red p.green t)

-- the two parts of soundness
pub registers-sound : (f : File) → T (sound f) → T (all_within (stored_table f.state.chip) f.registers)
unfolding sound
registers-sound f = left (all_within (stored_table f.state.chip) f.registers) (state_sound f.state)

pub state-sound : (f : File) → T (sound f) → T (state_sound f.state)
unfolding sound
state-sound f = right (all_within (stored_table f.state.chip) f.registers) (state_sound f.state)

pub sound-by : (f : File) → T (all_within (stored_table f.state.chip) f.registers) → T (state_sound f.state) → T (sound f)
unfolding sound
sound-by f = both (all_within (stored_table f.state.chip) f.registers) (state_sound f.state)

-- the three parts of a sound state
marks-of : (s : State) → T (state_sound s) → T (marks_sound s.marks)
unfolding state_sound
marks-of s h =
    left (marks_sound s.marks) (pointer_sound s.pointer) (left (marks_sound s.marks && pointer_sound s.pointer) (leb s.line last_line) h)

pointer-of : (s : State) → T (state_sound s) → T (pointer_sound s.pointer)
unfolding state_sound
pointer-of s h =
    right (marks_sound s.marks) (pointer_sound s.pointer) (left (marks_sound s.marks && pointer_sound s.pointer) (leb s.line last_line) h)

line_of : (s : State) → T (state_sound s) → T (leb s.line last_line)
unfolding state_sound
line_of s h = right (marks_sound s.marks && pointer_sound s.pointer) (leb s.line last_line) h

of_parts : (s : State) → T (marks_sound s.marks && pointer_sound s.pointer) → T (leb s.line last_line) → T (state_sound s)
unfolding state_sound
of_parts s t l = both (marks_sound s.marks && pointer_sound s.pointer) (leb s.line last_line) t l

-- a state with a part anew
pub pointing-sound : (p : Pointer) (s : State) → T (pointer_sound p) → T (state_sound s) → T (state_sound (pointing p s))
unfolding pointing
pointing-sound p s t h = of_parts (pointing p s) (both (marks_sound s.marks) (pointer_sound p) (marks-of s h) t) (line_of s h)

pub stepping-sound : (p : Pointer) (m : ℕ) (s : State) → T (marks_sound m && pointer_sound p) → T (state_sound s) → T (state_sound (stepping p m s))
unfolding stepping
stepping-sound p m s t h = of_parts (stepping p m s) t (line_of s h)

pub passing-sound : (line : ℕ) (s : State) → T (leb line last_line) → T (state_sound s) → T (state_sound (passing line s))
unfolding passing
passing-sound line s t h = of_parts (passing line s) (both (marks_sound s.marks) (pointer_sound s.pointer) (marks-of s h) (pointer-of s h)) t

pub toggling-sound : (toggle : Bool) (s : State) → T (state_sound s) → T (state_sound (toggling toggle s))
unfolding state_sound toggling
toggling-sound toggle s h = h

pub pointer-sound : (f : File) → T (sound f) → T (pointer_sound f.state.pointer)
pointer-sound f s = pointer-of f.state (state-sound f s)

pub marks-sound : (f : File) → T (sound f) → T (marks_sound f.state.marks)
marks-sound f s = marks-of f.state (state-sound f s)

-- 02, 10/13: 'sound up to 2,048'
pub line-sound : (f : File) → T (sound f) → f.state.line ≤ last_line
line-sound f s = leb→le f.state.line last_line (line_of f.state (state-sound f s))

-- the marks of an access from any pointer
marks-by : (reading : Bool) (next : ℕ) → T (marks_sound (marks_of reading (by_colour next 0 1 2)))
unfolding marks_sound
marks-by true zero = tt
marks-by true (suc zero) = tt
marks-by true (suc (suc next)) = tt
marks-by false zero = tt
marks-by false (suc zero) = tt
marks-by false (suc (suc next)) = tt

pub marks_from-sound : (reading : Bool) (p : Pointer) → T (marks_sound (marks_from reading p))
unfolding marks_from
marks_from-sound reading p = marks-by reading p.next

-- sound marks are those of their direction and colour
pub marks-parted : (m : ℕ) → T (marks_sound m) → marks_of (marked_read m) (marked_colour m) ≡ m
unfolding marks_sound
marks-parted m t =
    by-test (marked_read m)
    (λ e. rw e (omega (arith, eqb-true (m / 4) 1 e)))
    (λ e. rw e (omega (arith, eqb-false (m / 4) 1 e, leb→le (m / 4) 1 (left (leb (m / 4) 1) (leb (m % 4) 2) t))))

-- a sound file has all registers
pub sound-count : (f : File) → T (sound f) → length f.registers ≡ register_count
unfolding stored_table
sound-count f s = within_count (stored_table f.state.chip) f.registers (registers-sound f s)

store-sound : (f : File) (number reach value : ℕ)
    → T (within (stored_bits f.state.chip number) reach) → T (sound f)
    → T (all_within (stored_table f.state.chip) (store_in number reach value f).registers)
unfolding stored_bits store_in register
store-sound f number reach value w s =
    set-within table f.registers number (store reach (get_or f.registers number 0) value) (registers-sound f s)
    (store-within (get_or table number 0) reach (get_or f.registers number 0) value w
    (at table f.registers number (registers-sound f s)))
  where
    table : List ℕ
    table = stored_table f.state.chip

-- what is painted is neither registers nor state
pub paint-keeps : (f : File) (bank : Bool) (entry : ℕ) (colour : Colour) → (paint_in bank entry colour f).registers ≡ f.registers
unfolding paint_in
paint-keeps f true entry colour = refl
paint-keeps f false entry colour = refl

pub paint-keeps-state : (f : File) (bank : Bool) (entry : ℕ) (colour : Colour) → (paint_in bank entry colour f).state ≡ f.state
unfolding paint_in
paint-keeps-state f true entry colour = refl
paint-keeps-state f false entry colour = refl

-- such an effect leaves a sound file sound
pub apply-sound : (e : Effect) (f : File) → T (keeps f.state.chip e) → T (sound f) → T (sound (apply e f))
unfolding keeps apply
apply-sound Nothing f k s = s
apply-sound (Store flips number reach value) f k s =
    sound-by (apply (Store flips number reach value) f) (store-sound f number reach value k s)
    (toggling-sound (cond flips (not f.state.toggle) f.state.toggle) f.state (state-sound f s))
apply-sound (Toggle toggle) f k s = sound-by (apply (Toggle toggle) f) (registers-sound f s) (toggling-sound toggle f.state (state-sound f s))
apply-sound (Move pointer) f k s = sound-by (apply (Move pointer) f) (registers-sound f s) (pointing-sound pointer f.state k (state-sound f s))
apply-sound (Step pointer marks) f k s = sound-by (apply (Step pointer marks) f) (registers-sound f s) (stepping-sound pointer marks f.state k (state-sound f s))
apply-sound (Paint bank entry pointer colour marks) f k s =
    sound-by (apply (Paint bank entry pointer colour marks) f)
    (subst (λ (l : List ℕ). T (all_within (stored_table f.state.chip) l)) (sym (paint-keeps f bank entry colour)) (registers-sound f s))
    (stepping-sound pointer marks f.state k (state-sound f s))
apply-sound (Pass line) f k s = sound-by (apply (Pass line) f) (registers-sound f s) (passing-sound line f.state k (state-sound f s))

-- 02, 6/13: no effect changes the chip
pub apply-chip : (e : Effect) (f : File) → (apply e f).state.chip ≡ f.state.chip
unfolding apply
apply-chip Nothing f = refl
apply-chip (Store flips number reach value) f = refl
apply-chip (Toggle toggle) f = refl
apply-chip (Move pointer) f = refl
apply-chip (Step pointer marks) f = refl
apply-chip (Paint bank entry pointer colour marks) f = refl
apply-chip (Pass line) f = refl

-- the file at power-on is sound
pub power_on-sound : (chip : Chip) → T (sound (power_on chip))
unfolding sound state_sound last_line power_on v_port_at_power_on all_within stored_table within store marks_sound pointer_sound
power_on-sound Gd5462 = tt
power_on-sound Gd5464 = tt

-- a register of a sound file is at most its stored bits
pub at_most : (chip : Chip) (values : List ℕ) (number : ℕ) → T (all_within (stored_table chip) values) → get_or values number 0 ≤ stored_bits chip number
unfolding stored_bits
at_most chip values number t = within-le (get_or (stored_table chip) number 0) (get_or values number 0) (at (stored_table chip) values number t)
