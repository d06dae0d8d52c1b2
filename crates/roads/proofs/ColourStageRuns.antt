-- The stage of colours, over any list of stretches of entries: every record is accepted, what the stretches name holds the wanted colours, and all else but
-- the pointer and the marks is as before. Assumes nothing.
use Prim.Native.Nat.{ℕ, zero, suc, ◌+◌, ◌-◌, ◌≤◌, ◌<◌}
use mathlib.Core.Path.{◌≡◌, refl, sym, ap, ◌∙◌, subst, subst₂}
use mathlib.Core.Bool.{Bool, true, false, not, ◌&&◌, ◌||◌}
use mathlib.Core.List.{List, [], ◌∷◌, ◌++◌, append-nil}
use native.Mathlib.Omega.{arith}
use lib.Dec.{T, leb, ltb, leb→le, ltb→lt, le→leb, lt→ltb, T_not}
use lib.ListN.{get_or, set, length, length-set, drop_of_length-le}
use lib.Seq.{sets, sets-eq, length-sets, get_or-set_same, get_or-set_other}
use Rattle.bits.proofs.Test.{left, right, both, by-test, passes}
use Rattle.file.specs.declared.chip.Chip.{Chip}
use Rattle.file.specs.declared.palette.Colour.{Colour}
use Rattle.file.specs.declared.palette.Pointer.{Pointer}
use Rattle.file.specs.declared.registers.File.{File}
use Rattle.file.specs.declared.state.State.{State}
use Rattle.file.specs.File.{with_palette, with_bank, black}
use Rattle.file.specs.Palette.{addressed, marks_sound, pointer_sound}
use Rattle.file.specs.Registers.{stored_table}
use Rattle.file.specs.Sound.{all_within, sound}
use Rattle.file.specs.State.{state_sound}
use Rattle.file.proofs.Soundness.{registers-sound, sound-by, state-sound, marks-sound, stepping-sound, addressed-sound}
use Rattle.roads.specs.Plan.{entries}
use Rattle.roads.specs.Restores.{RunsInto}
use Rattle.roads.specs.ColourStage.{PaletteReady, entry_count, entries_in, with_entries, painted, Stretch, in_range, with_step, marks_after, after_stretch, stretch_records, every_stretch, after_stretches, entries_after, in_stretch, Agrees, AllAgree, colour_ends_wanted}
use Rattle.roads.proofs.StretchRuns.{up-as, painted-state, painted-registers, stretch-runs}
use Rattle.roads.proofs.RunsCompose.{runs_none, runs_then}

-- the marks after some entries are sound
marks-after-sound : (m : ℕ) (cs : List Colour) → T (marks_sound m) → T (marks_sound (marks_after m cs))
unfolding marks_after marks_sound
marks-after-sound m [] t = t
marks-after-sound m (c ∷ cs) t = tt

pub after-sound : (bank : Bool) (stretch : Stretch) (f : File) → T (sound f) → T (sound (after_stretch bank stretch f))
unfolding after_stretch with_step
after-sound bank stretch f s =
    sound-by (after_stretch bank stretch f)
    (subst₂ (λ (c : Chip) (rs : List ℕ). T (all_within (stored_table c) rs)) (ap (λ (q : State). q.chip) (sym (painted-state bank stretch.first stretch.colours f)))
    (sym (painted-registers bank stretch.first stretch.colours f)) (registers-sound f s))
    (stepping-sound (addressed false _) (marks_after f.state.marks stretch.colours) (painted bank stretch.first stretch.colours f).state
    (both (marks_sound (marks_after f.state.marks stretch.colours)) (pointer_sound (addressed false _))
    (marks-after-sound f.state.marks stretch.colours (marks-sound f s)) (addressed-sound false _))
    (subst (λ (q : State). T (state_sound q)) (sym (painted-state bank stretch.first stretch.colours f)) (state-sound f s)))

after-registers : (bank : Bool) (stretch : Stretch) (f : File) → (after_stretch bank stretch f).registers ≡ f.registers
unfolding after_stretch with_step
after-registers bank stretch f = painted-registers bank stretch.first stretch.colours f

after-chip : (bank : Bool) (stretch : Stretch) (f : File) → (after_stretch bank stretch f).state.chip ≡ f.state.chip
unfolding after_stretch with_step
after-chip bank stretch f = ap (λ (q : State). q.chip) (painted-state bank stretch.first stretch.colours f)

-- every record of any list of stretches is accepted
pub stretches-run : (stretches : List Stretch) (f : File) (bank : Bool) → T (sound f) → PaletteReady f bank → T (every_stretch (in_range bank) stretches)
    → RunsInto f (stretch_records stretches) (after_stretches bank stretches f)
unfolding stretch_records every_stretch after_stretches
stretches-run [] f bank s up t = runs_none f
stretches-run (stretch ∷ stretches) f bank s up t =
    runs_then (entries stretch.first stretch.colours) (stretch_records stretches) f (after_stretch bank stretch f) (after_stretches bank stretches (after_stretch bank stretch f))
    (stretch-runs stretch f bank s up (left (in_range bank stretch) (every_stretch (in_range bank) stretches) t))
    (stretches-run stretches (after_stretch bank stretch f) bank (after-sound bank stretch f s)
    (up-as f (after_stretch bank stretch f) bank (after-registers bank stretch f) (after-chip bank stretch f) (state-sound _ (after-sound bank stretch f s)) up) (right (in_range bank stretch) (every_stretch (in_range bank) stretches) t))

-- ---- what they leave among the entries

one-leaves : (bank : Bool) (stretch : Stretch) (f : File) (p : Pointer) (m : ℕ) (l : List Colour)
    → with_step p m (with_entries bank l (after_stretch bank stretch f)) ≡ with_step p m (with_entries bank l f)
unfolding after_stretch painted with_step with_bank with_palette
one-leaves true stretch f p m l = refl
one-leaves false stretch f p m l = refl

one-entries : (bank : Bool) (stretch : Stretch) (f : File) → entries_in bank (after_stretch bank stretch f) ≡ sets (entries_in bank f) stretch.first stretch.colours
unfolding after_stretch painted with_step with_bank with_palette
one-entries true stretch f = refl
one-entries false stretch f = refl

none-leaves : (bank : Bool) (f : File) → f ≡ with_step f.state.pointer f.state.marks (with_entries bank (entries_in bank f) f)
unfolding with_step with_bank with_palette
none-leaves true f = refl
none-leaves false f = refl

-- all but the pointer, the marks and the entries is as before
pub stretches-leave : (bank : Bool) (stretches : List Stretch) (f : File)
    → after_stretches bank stretches f
    ≡ with_step (after_stretches bank stretches f).state.pointer (after_stretches bank stretches f).state.marks (with_entries bank (entries_after stretches (entries_in bank f)) f)
unfolding after_stretches entries_after
stretches-leave bank [] f = none-leaves bank f
stretches-leave bank (stretch ∷ stretches) f =
    stretches-leave bank stretches (after_stretch bank stretch f)
    ∙ one-leaves bank stretch f last.pointer last.marks (entries_after stretches (entries_in bank (after_stretch bank stretch f)))
    ∙ ap (λ (l : List Colour). with_step last.pointer last.marks (with_entries bank (entries_after stretches l) f)) (one-entries bank stretch f)
  where
    last : State
    last = (after_stretches bank stretches (after_stretch bank stretch f)).state

-- a stretch of all entries leaves none of the old ones
pub sets-all : (old new : List Colour) → length old ≡ length new → sets old 0 new ≡ new
sets-all old new e =
    sets-eq new old 0 (omega arith)
    ∙ ap (λ (l : List Colour). new ++ l) (drop_of_length-le old {i = 0 + length new} (omega arith))
    ∙ append-nil new

-- outside a stretch of stores every element is the old one
sets-other : (vs l : List Colour) (i n : ℕ) (d : Colour) → (i ≤ n → n < i + length vs → ⊥) → get_or (sets l i vs) n d ≡ get_or l n d
sets-other [] l i n d h = refl
sets-other (v ∷ vs) l i n d h =
    sets-other vs (set l i v) (suc i) n d (λ a b. h (omega arith) (omega arith))
    ∙ get_or-set_other l i n v d (λ e. h (omega arith) (omega arith))

-- inside it, the new one
sets_same : (vs l : List Colour) (i k : ℕ) (d : Colour) → i + length vs ≤ length l → k < length vs → get_or (sets l i vs) (i + k) d ≡ get_or vs k d
sets_same [] l i k d h s = absurd (omega arith)
sets_same (v ∷ vs) l i zero d h s =
    sets-other vs (set l i v) (suc i) (i + 0) d (λ a b. omega arith)
    ∙ subst (λ (m : ℕ). get_or (set l i v) m d ≡ v) (omega arith) (get_or-set_same l i v d (omega arith))
sets_same (v ∷ vs) l i (suc k) d h s =
    subst (λ (m : ℕ). get_or (sets (set l i v) (suc i) vs) m d ≡ get_or vs k d) (omega arith)
    (sets_same vs (set l i v) (suc i) k d (omega (arith, length-set l i v)) (omega arith))

-- after one stretch
stretch-holds : (wanted : List Colour) (stretch : Stretch) (l : List Colour) (n : ℕ) → stretch.first + length stretch.colours ≤ length l → Agrees wanted stretch
    → T (in_stretch n stretch) → get_or (sets l stretch.first stretch.colours) n black ≡ get_or wanted n black
unfolding in_stretch
stretch-holds wanted stretch l n h agrees t =
    subst (λ (m : ℕ). get_or (sets l stretch.first stretch.colours) m black ≡ get_or wanted m black) (omega (arith, low))
    (sets_same stretch.colours l stretch.first (n - stretch.first) black h (omega (arith, low, high)) ∙ agrees (n - stretch.first) (omega (arith, low, high)))
  where
    low : stretch.first ≤ n
    low = leb→le stretch.first n (search left)

    high : n < stretch.first + length stretch.colours
    high = ltb→lt n (stretch.first + length stretch.colours) (search (left, right))

stretch-leaves-alone : (stretch : Stretch) (l : List Colour) (n : ℕ) → T (not (in_stretch n stretch))
    → get_or (sets l stretch.first stretch.colours) n black ≡ get_or l n black
unfolding in_stretch
stretch-leaves-alone stretch l n t =
    sets-other stretch.colours l stretch.first n black
    (λ a b. T_not (leb stretch.first n && ltb n (stretch.first + length stretch.colours)) t
    (both (leb stretch.first n) (ltb n (stretch.first + length stretch.colours)) (le→leb stretch.first n a) (lt→ltb n (stretch.first + length stretch.colours) b)))

-- what the stretches name holds the wanted colour
pub stretches-hold : (wanted : List Colour) (bank : Bool) (stretches : List Stretch) (l : List Colour) (n : ℕ) (held : Bool) → length l ≡ entry_count bank
    → T (every_stretch (in_range bank) stretches) → AllAgree wanted stretches → (T held → get_or l n black ≡ get_or wanted n black) → T (colour_ends_wanted stretches n held)
    → get_or (entries_after stretches l) n black ≡ get_or wanted n black
unfolding every_stretch in_range entries_after colour_ends_wanted
stretches-hold wanted bank [] l n held many r a e t = e t
stretches-hold wanted bank (stretch ∷ stretches) l n held many r a e t =
    stretches-hold wanted bank stretches (sets l stretch.first stretch.colours) n (in_stretch n stretch || held) (length-sets l stretch.first stretch.colours ∙ many)
    (right (in_range bank stretch) (every_stretch (in_range bank) stretches) r) a.1
    (λ h. by-test (in_stretch n stretch)
    (λ q. stretch-holds wanted stretch l n (omega (arith, leb→le (stretch.first + length stretch.colours) (entry_count bank) (search (left, right)))) a.0 (passes (in_stretch n stretch) q))
    (λ q. stretch-leaves-alone stretch l n (rw q tt) ∙ e (rw q at h))) t

-- and every other entry is as before
pub stretches-leave-alone : (stretches : List Stretch) (l : List Colour) (n : ℕ) → T (every_stretch (λ (stretch : Stretch). not (in_stretch n stretch)) stretches)
    → get_or (entries_after stretches l) n black ≡ get_or l n black
unfolding every_stretch entries_after
stretches-leave-alone [] l n t = refl
stretches-leave-alone (stretch ∷ stretches) l n t =
    stretches-leave-alone stretches (sets l stretch.first stretch.colours) n (right (not (in_stretch n stretch)) (every_stretch (λ (stretch : Stretch). not (in_stretch n stretch)) stretches) t)
    ∙ stretch-leaves-alone stretch l n (left (not (in_stretch n stretch)) (every_stretch (λ (stretch : Stretch). not (in_stretch n stretch)) stretches) t)
