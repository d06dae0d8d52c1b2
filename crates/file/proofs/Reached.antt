-- An effect changes nothing outside its reach, and a register's bits inside it are the value's.
-- Assumes nothing.
use Prim.Native.Nat.{ℕ, ◌<◌}
use mathlib.Core.Path.{◌≡◌, refl, ap, ◌∙◌}
use mathlib.Core.Bool.{true, false, true≢false}
use lib.ListN.{get_or, length}
use lib.Seq.{get_or-set_same, get_or-set_other}
use Rattle.bits.specs.Store.{bit, store}
use Rattle.bits.proofs.Piece.{stored-outside}
use Rattle.bits.proofs.Stored.{inside}
use Rattle.file.specs.declared.effect.Effect.{Effect}
use Rattle.file.specs.declared.effect.Effect.TheVariants.{Nothing, Store, Toggle, Move, Step, Paint, Pass}
use Rattle.file.specs.declared.registers.File.{File}
use Rattle.file.specs.Effects.{apply, reach_of, store_in}
use Rattle.file.specs.File.{register, black}
use Rattle.file.specs.Reached.{SameOutside}

-- inside the reach of a store, the register's bits are the value's
pub stored-inside : (f : File) (number reach value i : ℕ) → number < length f.registers → bit i reach ≡ 1
    → bit i (register (store_in number reach value f) number) ≡ bit i value
unfolding register store_in
stored-inside f number reach value i h e =
    ap (bit i) (get_or-set_same f.registers number (store reach (get_or f.registers number 0) value) 0 h)
    ∙ inside i reach (get_or f.registers number 0) value e

-- nothing changes outside the reach of an effect
pub same-outside : (e : Effect) (f : File) → SameOutside (reach_of e) f (apply e f)
unfolding reach_of apply register
same-outside Nothing f =
    record { registers = λ n i h. refl; palette = λ n h. refl; bank = λ n h. refl; pointer = λ h. refl; marks = λ h. refl; toggle = λ h. refl; line = λ h. refl; chip = refl }
same-outside (Store flips number reach value) f =
    record {
      registers = stored-outside f.registers number reach value;
      palette = λ n h. refl;
      bank = λ n h. refl;
      pointer = λ h. refl;
      marks = λ h. refl;
      toggle = λ h. rw h refl;
      line = λ h. refl;
      chip = refl;
    }
same-outside (Toggle toggle) f =
    record { registers = λ n i h. refl; palette = λ n h. refl; bank = λ n h. refl; pointer = λ h. refl; marks = λ h. refl; toggle = λ h. absurd (true≢false h); line = λ h. refl; chip = refl }
same-outside (Move pointer) f =
    record { registers = λ n i h. refl; palette = λ n h. refl; bank = λ n h. refl; pointer = λ h. absurd (true≢false h); marks = λ h. refl; toggle = λ h. refl; line = λ h. refl; chip = refl }
same-outside (Step pointer marks) f =
    record {
      registers = λ n i h. refl;
      palette = λ n h. refl;
      bank = λ n h. refl;
      pointer = λ h. absurd (true≢false h);
      marks = λ h. absurd (true≢false h);
      toggle = λ h. refl;
      line = λ h. refl;
      chip = refl;
    }
same-outside (Paint true entry pointer colour marks) f =
    record {
      registers = λ n i h. refl;
      palette = λ n h. refl;
      bank = λ n h. get_or-set_other f.bank entry n colour black (h refl);
      pointer = λ h. absurd (true≢false h);
      marks = λ h. absurd (true≢false h);
      toggle = λ h. refl;
      line = λ h. refl;
      chip = refl;
    }
same-outside (Paint false entry pointer colour marks) f =
    record {
      registers = λ n i h. refl;
      palette = λ n h. get_or-set_other f.palette entry n colour black (h refl);
      bank = λ n h. refl;
      pointer = λ h. absurd (true≢false h);
      marks = λ h. absurd (true≢false h);
      toggle = λ h. refl;
      line = λ h. refl;
      chip = refl;
    }
same-outside (Pass line) f =
    record {
      registers = λ n i h. refl;
      palette = λ n h. refl;
      bank = λ n h. refl;
      pointer = λ h. refl;
      marks = λ h. refl;
      toggle = λ h. refl;
      line = λ h. absurd (true≢false h);
      chip = refl;
    }
