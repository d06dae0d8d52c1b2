-- The registers that a timing write and a modeline store into, by their numbers. Assumes nothing.
use Prim.Native.Nat.{ℕ}
use mathlib.Core.Path.{◌≡◌, refl}
use mathlib.Core.Bool.{Bool, true, false, cond}
use mathlib.Core.List.{List, [], ◌∷◌}
use lib.Dec.{T}
use Rattle.bits.specs.Pieces.{piece_reach}
use Rattle.bits.specs.Reach.{pieces_of}
use Rattle.bits.proofs.Test.{every_below}
use Rattle.file.specs.Effects.{reach_of}
use Rattle.file.specs.Names.{MISC, CR0, CR1, CR2, CR3, CR4, CR5, CR6, CR7, CR9, CRC, CRD, CR10, CR11, CR12, CR13, CR15, CR16, CR18, CR1A, CR1B, CR1D, CR1E}
use Rattle.file.specs.Registers.{register_count}
use Rattle.timing.specs.Table.{table}
use Rattle.mode_file.specs.Said.{flag_reach}
use Rattle.touched.specs.declared.set.Touched.{Touched}
use Rattle.touched.specs.Noted.{reaches, noted, any_reaches, noted_all}
use Rattle.touched.specs.Outside.{same_bools}
use Rattle.touched.specs.Things.{Thing, a_register, in_palette, in_bank, the_pointer, the_marks, the_toggle, there, IsSet}
use Rattle.touched.proofs.MarkedRegisters.{is_among, among, marked, marked_all, same_numbers}
use Rattle.noting.specs.Noting.{store_reach, timing_reaches}

-- 'CR0-7, 9, C, D, 10-13, 15, 16, 18, 1B, 1D, 1E, and CR1A only if wide'
unfoldable pub timed : Bool → List ℕ
timed is_wide =
    CR0 ∷ CR1 ∷ CR2 ∷ CR3 ∷ CR4 ∷ CR5 ∷ CR6 ∷ CR7 ∷ CR9 ∷ CRC ∷ CRD ∷ CR10 ∷ CR11 ∷ CR12 ∷ CR13 ∷ CR15 ∷ CR16 ∷ CR18 ∷ CR1B ∷ CR1D ∷ CR1E ∷ cond is_wide (CR1A ∷ []) []

abbrev SameNumbers : Bool → Type 0
SameNumbers is_wide = T (every_below (λ (n : ℕ). same_bools (is_among (timed is_wide) n) (any_reaches (timing_reaches is_wide) (a_register n))) register_count)

both-same : SameNumbers true × SameNumbers false
unfolding every_below same_bools is_among timed any_reaches reaches timing_reaches store_reach reach_of table pieces_of piece_reach
both-same = (tt, tt)

numbers-same : (is_wide : Bool) → SameNumbers is_wide
numbers-same true = both-same.0
numbers-same false = both-same.1

-- a timing write reaches these registers and nothing else
pub timing-reaches : (is_wide : Bool) (t : Thing) → T (there t) → among (timed is_wide) t ≡ any_reaches (timing_reaches is_wide) t
unfolding among any_reaches reaches timing_reaches store_reach reach_of table pieces_of
timing-reaches is_wide (a_register n) h = same_numbers (timed is_wide) (timing_reaches is_wide) (numbers-same is_wide) n h
timing-reaches true (in_palette n) h = refl
timing-reaches false (in_palette n) h = refl
timing-reaches true (in_bank n) h = refl
timing-reaches false (in_bank n) h = refl
timing-reaches true the_pointer h = refl
timing-reaches false the_pointer h = refl
timing-reaches true the_marks h = refl
timing-reaches false the_marks h = refl
timing-reaches true the_toggle h = refl
timing-reaches false the_toggle h = refl

pub timing-marked : (is_wide : Bool) (s : Touched) → IsSet s → marked (timed is_wide) s ≡ noted_all (timing_reaches is_wide) s
timing-marked is_wide s is = marked_all (timed is_wide) (timing_reaches is_wide) s is (timing-reaches is_wide)

-- a modeline's flags reach MISC
flags-reach : (t : Thing) → among (MISC ∷ []) t ≡ any_reaches (store_reach MISC flag_reach ∷ []) t
unfolding among any_reaches reaches store_reach reach_of flag_reach
flags-reach (a_register n) = refl
flags-reach (in_palette n) = refl
flags-reach (in_bank n) = refl
flags-reach the_pointer = refl
flags-reach the_marks = refl
flags-reach the_toggle = refl

pub flags-marked : (s : Touched) → IsSet s → marked (MISC ∷ []) s ≡ noted (store_reach MISC flag_reach) s
unfolding noted_all
flags-marked s is = marked_all (MISC ∷ []) (store_reach MISC flag_reach ∷ []) s is (λ t h. flags-reach t)
