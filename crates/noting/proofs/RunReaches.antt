-- What a run reaches, one item more; and what its loop holds beside what it holds without the set. Assumes nothing.
use Prim.Native.Nat.{ℕ, ◌+◌, ◌*◌, ◌≤◌, ◌<◌}
use mathlib.Core.Path.{◌≡◌, refl, sym, ap, ap₂, ◌∙◌}
use mathlib.Core.Bool.{false}
use mathlib.Core.List.{List, [], ◌∷◌, ◌++◌}
use native.Mathlib.Numerals.{add-one}
use lib.Dec.{T}
use lib.ListN.{length, take, drop}
use Rattle.bits.proofs.Test.{is_true}
use Rattle.file.specs.declared.answer.Answer.TheVariants.{Done, NotSound}
use Rattle.file.specs.declared.effect.Reach.{Reach}
use Rattle.file.specs.declared.palette.Colour.{Colour}
use Rattle.file.specs.declared.registers.File.{File}
use Rattle.file.specs.declared.state.State.{State}
use Rattle.file.specs.Effects.{reach_of}
use Rattle.file.specs.File.{seen}
use Rattle.file.specs.Sound.{sound}
use Rattle.access.specs.declared.record.Item.{Item}
use Rattle.access.specs.declared.record.Record.{Record}
use Rattle.access.specs.Access.{access_item, effect, reach}
use Rattle.access.proofs.SeenDecisions.{effect-seen}
use Rattle.trace.specs.Records.{record_of, item_of, items}
use Rattle.trace.specs.Run.{file_after, replies, RunLeft, run_count, ran, run}
use Rattle.trace.proofs.RunEnds.{fragment-item}
use Rattle.trace.proofs.RunLoop.{together, Held, whole_item}
use Rattle.trace.proofs.RunMore.{items_more}
use Rattle.touched.specs.declared.set.Touched.{Touched}
use Rattle.touched.specs.Noted.{noted, noted_all}
use Rattle.touched.proofs.NotedNames.{all_more, nothing-noted}
use Rattle.noting.specs.declared.kept.Noted.{Noted}
use Rattle.trace.specs.declared.running.Ran.{Ran}
use Rattle.noting.specs.Noting.{item_reach, run_reaches, RunNotedKept}

-- the reaches of one item more
pub reaches_more : (f : File) (is : List Item) (i : Item) → run_reaches f (is ++ i ∷ []) ≡ run_reaches f is ++ item_reach (file_after f is) i ∷ []
unfolding run_reaches file_after
reaches_more f [] i = refl
reaches_more f (j ∷ is) i = ap (λ (rs : List Reach). item_reach f j ∷ rs) (reaches_more (access_item f j).file is i)

module _ (s : Touched) (f : File) (trace : List ℕ) where
  -- the set after so many items
  abbrev pub Then : ℕ → Touched
  Then n = noted_all (run_reaches f (items n trace)) s

  next-item : (n : ℕ) → Then (n + 1) ≡ noted (item_reach (file_after f (items n trace)) (item_of (take 8 (drop (8 * n) trace)))) (Then n)
  next-item n =
      ap (λ (is : List Item). noted_all (run_reaches f is) s) (ap (λ (k : ℕ). items k trace) (add-one n) ∙ items_more n trace)
      ∙ ap (λ (rs : List Reach). noted_all rs s) (reaches_more f (items n trace) (item_of (take 8 (drop (8 * n) trace))))
      ∙ all_more (run_reaches f (items n trace)) _ s

  -- a whole record's reach is added
  pub next-whole : (n : ℕ) → 8 * n + 8 ≤ length trace
      → Then (n + 1) ≡ noted (reach (file_after f (items n trace)) (record_of (take 8 (drop (8 * n) trace)))) (Then n)
  unfolding item_reach
  next-whole n room =
      next-item n ∙ ap (λ (i : Item). noted (item_reach (file_after f (items n trace)) i) (Then n)) (whole_item f trace [] n room)

  -- a fragment reaches nothing
  pub next-fragment : (n : ℕ) → length trace < 8 * n + 8 → Then (n + 1) ≡ Then n
  unfolding item_reach
  next-fragment n short =
      next-item n
      ∙ ap (λ (i : Item). noted (item_reach (file_after f (items n trace)) i) (Then n)) (fragment-item f trace n short)
      ∙ nothing-noted (Then n)

  -- what the loop holds
  pub record HeldNoting (before : List ℕ) (count : ℕ) (buffer registers : List ℕ) (palette bank : List Colour) (state : State) (set : Touched) (n : ℕ) : Type 0 where
    pub held : Held f trace before count buffer registers palette bank state n
    pub noted : set ≡ Then n

  -- the set of one record more, by what is seen of the file
  pub noted_step : (n : ℕ) → 8 * n + 8 ≤ length trace
      → (registers : List ℕ) (palette bank : List Colour) (state : State) → together registers palette bank state ≡ file_after f (items n trace)
      → (asked : Record) → asked ≡ record_of (take 8 (drop (8 * n) trace))
      → (set after : Touched) (r : Reach) → set ≡ Then n → r ≡ reach (seen registers state) asked → after ≡ noted r set → after ≡ Then (n + 1)
  unfolding reach
  noted_step n room registers palette bank state file asked there set after r noted-so reached more =
      more
      ∙ ap₂ noted
      (reached
      ∙ ap reach_of (sym (effect-seen (together registers palette bank state) asked))
      ∙ ap₂ (λ (g : File) (q : Record). reach_of (effect g q)) file there)
      noted-so
      ∙ sym (next-whole n room)

  -- ---- where a run ends

  -- what a run from a sound file leaves
  sound-left : (before : List ℕ) → T (sound f) → run f trace before ≡ ran (run_count trace before) f trace before
  unfolding run
  sound-left before t = rw (is_true (sound f) t) refl

  pub sound-run : (before after : List ℕ) (count : ℕ) (r : Noted Ran) (file : File) (set : Touched) → T (sound f) → count ≡ run_count trace before
      → file ≡ file_after f (items count trace) → set ≡ Then count → after ≡ replies f (items count trace) ++ drop (8 * count) before
      → r ≡ record { done = record { answer = Done 0; file = file; count = count }; touched = set }
      → RunNotedKept s f trace before after r
  unfolding ran
  sound-run before after count r file set t same ended noted-so said e =
      let left = sound-left before t in
      let counted = same ∙ sym (ap (λ (l : RunLeft). l.count) left) in
      record {
        done =
            record {
              answered = ap (λ (x : Noted Ran). x.done.answer) e ∙ sym (ap (λ (l : RunLeft). l.answer) left);
              ended =
                  ap (λ (x : Noted Ran). x.done.file) e
                  ∙ ended ∙ ap (λ (k : ℕ). file_after f (items k trace)) same ∙ sym (ap (λ (l : RunLeft). l.file) left);
              counted = ap (λ (x : Noted Ran). x.done.count) e ∙ counted;
              replied =
                  said ∙ ap (λ (k : ℕ). replies f (items k trace) ++ drop (8 * k) before) same ∙ sym (ap (λ (l : RunLeft). l.buffer) left);
            };
        noted = ap (λ (x : Noted Ran). x.touched) e ∙ noted-so ∙ ap Then counted;
      }

  -- an unsound file's run
  pub unsound-run : (before : List ℕ) → sound f ≡ false
      → RunNotedKept s f trace before before (record { done = record { answer = NotSound; file = f; count = 0 }; touched = s })
  unfolding run items run_reaches noted_all
  unsound-run before e =
      let left : run f trace before ≡ record { answer = NotSound; file = f; count = 0; buffer = before; rest = trace } = rw e refl in
      record {
        done =
            record {
              answered = sym (ap (λ (l : RunLeft). l.answer) left);
              ended = sym (ap (λ (l : RunLeft). l.file) left);
              counted = sym (ap (λ (l : RunLeft). l.count) left);
              replied = sym (ap (λ (l : RunLeft). l.buffer) left);
            };
        noted = sym (ap Then (ap (λ (l : RunLeft). l.count) left));
      }
