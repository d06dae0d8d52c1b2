-- A second trace behind a saved file, by its parts: the file that it leads to, and the set of what it touched. Assumes nothing.
use Rattle.std.proofs.Common.{◌≡◌, ℕ, ◌+◌, ◌*◌, ◌/◌, ◌%◌, ◌^◌, ◌<◌, ◌≤◌, min, true, false, T, List, [], ◌∷◌, ◌++◌, length, sym, refl, ap, ◌∙◌, ap₂, subst₂, arith, length-append, eqb-true}
use Rattle.bits.proofs.Test.{by-test, is_true}
use Rattle.file.specs.declared.effect.Reach.{Reach}
use Rattle.file.specs.declared.registers.File.{File}
use Rattle.file.specs.Sound.{sound}
use Rattle.access.specs.declared.record.Item.{Item}
use Rattle.access.specs.Access.{access_item}
use Rattle.trace.specs.Records.{items, item_count}
use Rattle.trace.specs.Run.{file_after, ran, run, run_count, RunLeft}
use Rattle.touched.specs.declared.set.Touched.{Touched}
use Rattle.touched.specs.Noted.{noted, noted_all}
use Rattle.touched.specs.Outside.{agrees_outside}
use Rattle.touched.specs.Things.{IsSet, nothing}
use Rattle.touched.proofs.Elsewhere.{itself-agrees}
use Rattle.trace.specs.declared.running.Ran.{Ran}
use Rattle.noting.specs.declared.kept.Noted.{Noted}
use Rattle.noting.specs.Noting.{item_reach, run_reaches, RunNotedKept}
use Rattle.noting.proofs.SetsKeepUp.{run-keeps-up}
use Rattle.replaying.specs.Replay.{after_part}
use Rattle.replaying.proofs.Pieces.{file-parts, trace-cut}
use Rattle.replaying.proofs.Whole.{part_sound}
use Rattle.shell.specs.declared.following.Onward.{Onward}
use Rattle.shell.specs.declared.reading.Filled.{Filled}
use Rattle.shell.specs.SecondTrace.{Ended, Followed, Gone, touched_after}
use Rattle.shell.specs.Parts.{counted}
use Rattle.shell.proofs.Turns.{counted-on, none_after}

-- ---- the set, part by part

reaches-in-parts : (f : File) (is js : List Item) → run_reaches f (is ++ js) ≡ run_reaches f is ++ run_reaches (file_after f is) js
unfolding run_reaches file_after
reaches-in-parts f [] js = refl
reaches-in-parts f (i ∷ is) js = ap (λ (rs : List Reach). item_reach f i ∷ rs) (reaches-in-parts (access_item f i).file is js)

noted-in-parts : (rs qs : List Reach) (s : Touched) → noted_all (rs ++ qs) s ≡ noted_all qs (noted_all rs s)
unfolding noted_all
noted-in-parts [] qs s = refl
noted-in-parts (r ∷ rs) qs s = noted-in-parts rs qs (noted r s)

touched-parts : (s : Touched) (f : File) (part rest : List ℕ) → length part % 8 ≡ 0
    → touched_after s f (part ++ rest) ≡ touched_after (touched_after s f part) (after_part f part) rest
unfolding touched_after after_part item_count
touched-parts s f part rest whole =
    ap (λ (is : List Item). noted_all (run_reaches f is) s) (trace-cut (item_count part) part rest (omega (arith, whole)))
    ∙ ap (λ (rs : List Reach). noted_all rs s) (reaches-in-parts f (items (item_count part) part) (items (item_count rest) rest))
    ∙ noted-in-parts (run_reaches f (items (item_count part) part)) _ s

-- ---- a turn

-- where there is a place for each item, a run that keeps the set takes the whole part
run-whole : (f : File) (part before : List ℕ) → T (sound f) → 8 * item_count part ≤ length before → run f part before ≡ ran (item_count part) f part before
unfolding run run_count
run-whole f part before s room =
    let all : min (item_count part) (length before / 8) ≡ item_count part = omega (arith, room) in
    rw (is_true (sound f) s, all) refl

module _ {s : Touched} {f : File} {part before after : List ℕ} {r : Noted Ran} (kept : RunNotedKept s f part before after r) (good : T (sound f))
    (room : 8 * item_count part ≤ length before) where
  pub noted-file : r.done.file ≡ after_part f part
  unfolding after_part ran
  noted-file = kept.done.ended ∙ ap (λ (x : RunLeft). x.file) (run-whole f part before good room)

  pub noted-set : r.touched ≡ touched_after s f part
  unfolding touched_after ran
  noted-set = kept.noted ∙ ap (λ (x : RunLeft). noted_all (run_reaches f (items x.count part)) s) (run-whole f part before good room)

-- ---- turns

-- where so many turns led to: no read failed, and each turn that leaves more to read took 8,192 bytes
pub record Following (saved : File) (turns : ℕ) (r : Onward) : Type 0 where
  pub come : Followed saved r
  pub read : r.read.failed ≡ false
  pub taken : r.more ≡ true → r.read.all ≡ 8192 * turns

pub following-none : (saved : File) (r : Onward) → r.file ≡ saved → r.touched ≡ nothing
    → r.read ≡ record { count = 0; failed = false; all = 0 } → Following saved 0 r
unfolding touched_after item_count items run_reaches noted_all
following-none saved r file touched read =
    let all = ap (λ (x : Filled). x.all) read in
    record {
      come = record { trace = []; file = file ∙ none_after saved; touched = touched; all = all; whole = λ _. refl };
      read = ap (λ (x : Filled). x.failed) read;
      taken = λ _. omega (arith, all);
    }

followed-on : (saved : File) (before : Onward) (read : Filled) (part : List ℕ) (r : Onward) → Followed saved before → before.more ≡ true
    → read.all ≡ counted before.read.all (length part) → Gone before read part r → Followed saved r
followed-on saved before read part r come more all on =
    let whole = come.whole more in
    record {
      trace = come.trace ++ part;
      file = on.file ∙ ap (λ (f : File). after_part f part) come.file ∙ sym (file-parts come.trace part whole saved);
      touched =
          on.touched
          ∙ ap₂ (λ (s : Touched) (f : File). touched_after s f part) come.touched come.file
          ∙ sym (touched-parts nothing saved come.trace part whole);
      all = counted-on _ _ come.trace part come.all (ap (λ (x : Filled). x.all) on.read ∙ all);
      whole =
          λ goes. let full : length part ≡ 8192 = eqb-true _ _ (sym on.more ∙ goes) in
          rw length-append (omega (arith, whole, full));
    }

pub following-on : (saved : File) (turns : ℕ) (before : Onward) (read : Filled) (part : List ℕ) (r : Onward) → Following saved turns before
    → before.more ≡ true → read.all ≡ counted before.read.all (length part) → before.read.all + 8192 < 2 ^ 64 → read.failed ≡ false
    → Gone before read part r → Following saved (turns + 1) r
following-on saved turns before read part r on more all low unfailed gone =
    record {
      come = followed-on saved before read part r on.come more all gone;
      read = ap (λ (x : Filled). x.failed) gone.read ∙ unfailed;
      taken =
          λ goes. let full : length part ≡ 8192 = eqb-true _ _ (sym gone.more ∙ goes) in
          let now = ap (λ (x : Filled). x.all) gone.read ∙ all in
          omega (arith, on.taken more, full, now, low);
    }

-- no run comes to so many turns
pub following-ended : (saved : File) (turns : ℕ) (r : Onward) → 18446744073709551615 ≤ turns → Following saved turns r → r.more ≡ false
following-ended saved turns r all on = by-test r.more (λ e. absurd (omega (arith, all, on.taken e, on.come.all))) (λ e. e)

pub followed-to-end : (saved : File) (turns : ℕ) (r : Onward) → Following saved turns r → r.more ≡ false → Ended saved r
followed-to-end saved turns r on end = record { ended = end; led = λ _. on.come }

-- each turn begins with a sound file
pub followed-sound : (saved : File) (r : Onward) → T (sound saved) → Followed saved r → T (sound r.file)
followed-sound saved r good come = rw come.file (part_sound saved come.trace good)

-- ---- what the set is good for

nothing-set : IsSet nothing
unfolding nothing
nothing-set = record { registers = refl; palette = refl; bank = refl }

-- file and saved file agree outside the set, so that no short plan back is refused with 20
pub followed-agrees : (saved : File) (r : Onward) → Followed saved r → T (agrees_outside r.touched r.file saved)
unfolding touched_after after_part
followed-agrees saved r come =
    subst₂ (λ (s : Touched) (f : File). T (agrees_outside s f saved)) (sym come.touched) (sym come.file)
    (run-keeps-up (items (item_count come.trace) come.trace) nothing saved saved nothing-set (itself-agrees nothing saved))
