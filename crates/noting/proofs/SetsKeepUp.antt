-- A set that was kept names enough: where a file and a saved one agree outside it, they do so after each access, run, timing write and modeline that
-- keeps it. So a short plan is never refused with 20 from a saved file on. Assumes nothing.
use Prim.Native.Nat.{ℕ}
use mathlib.Core.Path.{◌≡◌, refl, sym, ap, ap₂, ◌∙◌, subst, subst₂}
use mathlib.Core.Bool.{Bool, true, false, cond, not, true≢false, ◌&&◌, ◌||◌}
use mathlib.Core.List.{List, [], ◌∷◌, map}
use borrow.Author.Tests.{eqb-true, eqb-false, eq-eqb}
use lib.Bits.{bit_or}
use lib.Dec.{T, eqb, lt→ltb}
use lib.ListN.{get_or}
use Rattle.bits.specs.Pieces.{Piece, piece_reach}
use Rattle.bits.specs.Reach.{pieces_reach, pieces_of, table_reach}
use Rattle.bits.specs.Store.{bit}
use Rattle.bits.proofs.Bit.{bit-of-zero, by_bits}
use Rattle.bits.proofs.Test.{by-test, or_left, or_right}
use Rattle.file.specs.declared.effect.Effect.TheVariants.{Nothing}
use Rattle.file.specs.declared.effect.Reach.{Reach}
use Rattle.file.specs.declared.palette.Colour.{Colour}
use Rattle.file.specs.declared.registers.File.{File}
use Rattle.file.specs.declared.state.State.{State}
use Rattle.file.specs.Answers.{refused}
use Rattle.file.specs.Effects.{apply, reach_of}
use Rattle.file.specs.File.{register, black}
use Rattle.file.specs.Names.{MISC}
use Rattle.file.specs.Reached.{SameOutside}
use Rattle.file.proofs.Reached.{same-outside}
use Rattle.access.specs.declared.record.Item.{Item}
use Rattle.access.specs.declared.record.Item.TheVariants.{Whole, Fragment}
use Rattle.access.specs.declared.record.Record.{Record}
use Rattle.access.specs.Access.{access, access_item, reach}
use Rattle.access.proofs.Reach.{outside-reach}
use Rattle.trace.specs.Run.{file_after}
use Rattle.timing.specs.declared.Timing.{Timing}
use Rattle.timing.specs.Promises.{SameOutsideTable}
use Rattle.timing.specs.Table.{table, wide}
use Rattle.timing.specs.Timing.{timing_answer, written_file, write_timing}
use Rattle.timing.proofs.Writer.{same-outside as outside-table}
use Rattle.mode_file.specs.Promises.{SameOutsideMode}
use Rattle.mode_file.specs.Said.{flag_reach}
use Rattle.mode_file.specs.Verdicts.{code_said}
use Rattle.mode_file.proofs.Laws.{line-outside, line_refused}
use Rattle.touched.specs.declared.set.Touched.{Touched}
use Rattle.touched.specs.Noted.{reaches, noted, any_reaches, noted_all}
use Rattle.touched.specs.Outside.{agrees_outside}
use Rattle.touched.specs.Things.{Thing, a_register, in_palette, in_bank, the_pointer, the_marks, the_toggle, there, names, IsSet}
use Rattle.touched.proofs.Elsewhere.{agrees-elsewhere, elsewhere-agrees}
use Rattle.touched.proofs.NotedNames.{noted-set, all_named}
use Rattle.noting.specs.declared.kept.Noted.{Noted}
use Rattle.mode_file.specs.declared.into.ReadLine.{ReadLine}
use Rattle.noting.specs.Noting.{access_noting, item_reach, run_reaches, store_reach, timing_reaches, timing_noting, line_reaches, LineNotedKept}

-- what no reach of a list reaches is the same in two files
pub record SameUnreached (rs : List Reach) (f g : File) : Type 0 where
  pub registers : (n : ℕ) → any_reaches rs (a_register n) ≡ false → register g n ≡ register f n
  pub palette : (n : ℕ) → any_reaches rs (in_palette n) ≡ false → get_or g.palette n black ≡ get_or f.palette n black
  pub bank : (n : ℕ) → any_reaches rs (in_bank n) ≡ false → get_or g.bank n black ≡ get_or f.bank n black
  pub pointer : any_reaches rs the_pointer ≡ false → g.state.pointer ≡ f.state.pointer
  pub marks : any_reaches rs the_marks ≡ false → g.state.marks ≡ f.state.marks
  pub toggle : any_reaches rs the_toggle ≡ false → g.state.toggle ≡ f.state.toggle

-- the one law: a set with what was reached keeps up
module _ (rs : List Reach) (s : Touched) (f g w : File) (is : IsSet s) (same : SameUnreached rs f g) (old : T (agrees_outside s f w)) where
  -- what the set after doesn't name, the set before doesn't, and nothing reached it
  unnamed : (t : Thing) → T (there t) → names (noted_all rs s) t ≡ false → (names s t ≡ false) × (any_reaches rs t ≡ false)
  unnamed t h e =
      let no = sym (all_named rs s t is h) ∙ e in
      (or_left (names s t) (any_reaches rs t) no, or_right (names s t) (any_reaches rs t) no)

  pub keeps-up : T (agrees_outside (noted_all rs s) g w)
  unfolding names there
  keeps-up =
      let same-before = agrees-elsewhere s f w old in
      elsewhere-agrees (noted_all rs s) g w
      (record {
        registers = λ n h e. let no = unnamed (a_register n) (lt→ltb n _ h) e in same.registers n no.1 ∙ same-before.registers n h no.0;
        palette = λ n h e. let no = unnamed (in_palette n) (lt→ltb n _ h) e in same.palette n no.1 ∙ same-before.palette n h no.0;
        bank = λ n h e. let no = unnamed (in_bank n) (lt→ltb n _ h) e in same.bank n no.1 ∙ same-before.bank n h no.0;
        pointer = λ e. let no = unnamed the_pointer tt e in same.pointer no.1 ∙ same-before.pointer no.0;
        marks = λ e. let no = unnamed the_marks tt e in same.marks no.1 ∙ same-before.marks no.0;
        toggle = λ e. let no = unnamed the_toggle tt e in same.toggle no.1 ∙ same-before.toggle no.0;
      })

-- ---- accesses and runs

not-both : (a b : Bool) → (a && b) || false ≡ false → a ≡ true → b ≡ true → ⊥
not-both true true e p q = true≢false e
not-both true false e p q = true≢false (sym q)
not-both false b e p q = true≢false (sym p)

-- where a store's bits are some, its register is another
bits-spared : (bits number n i : ℕ) → (not (eqb bits 0) && eqb n number) || false ≡ false → n ≡ number → bit i bits ≡ 0
bits-spared bits number n i e same =
    by-test (eqb bits 0)
    (λ z. ap (bit i) (eqb-true bits 0 z) ∙ bit-of-zero i)
    (λ z. absurd (not-both (not (eqb bits 0)) (eqb n number) e (rw z refl) (eq-eqb n number same)))

one-unreached : (r : Reach) (f g : File) → SameOutside r f g → SameUnreached (r ∷ []) f g
unfolding any_reaches reaches
one-unreached r f g same =
    record {
      registers = λ n e. by_bits (register g n) (register f n) (λ i. same.registers n i (bits-spared r.bits r.register n i e));
      palette = λ n e. same.palette n (λ p q. not-both r.palette (eqb n r.entry) e p (eq-eqb n r.entry q));
      bank = λ n e. same.bank n (λ p q. not-both r.bank (eqb n r.entry) e p (eq-eqb n r.entry q));
      pointer = λ e. same.pointer (or_left r.pointer false e);
      marks = λ e. same.marks (or_left r.marks false e);
      toggle = λ e. same.toggle (or_left r.toggle false e);
    }

pub access-keeps-up : (s : Touched) (f w : File) (r : Record) → IsSet s → T (agrees_outside s f w)
    → T (agrees_outside (access_noting s f r).touched (access_noting s f r).done.file w)
unfolding access_noting noted_all
access-keeps-up s f w r is old = keeps-up (reach f r ∷ []) s f (access f r).file w is (one-unreached (reach f r) f (access f r).file (outside-reach f r)) old

item-outside : (f : File) (i : Item) → SameOutside (item_reach f i) f (access_item f i).file
unfolding item_reach access_item apply
item-outside f (Whole r) = outside-reach f r
item-outside f (Fragment r) = same-outside Nothing f

pub run-keeps-up : (is : List Item) (s : Touched) (f w : File) → IsSet s → T (agrees_outside s f w)
    → T (agrees_outside (noted_all (run_reaches f is) s) (file_after f is) w)
unfolding run_reaches file_after noted_all
run-keeps-up [] s f w set old = old
run-keeps-up (i ∷ is) s f w set old =
    run-keeps-up is (noted (item_reach f i) s) (access_item f i).file w (noted-set (item_reach f i) s set)
    (keeps-up (item_reach f i ∷ []) s f (access_item f i).file w set (one-unreached (item_reach f i) f (access_item f i).file (item-outside f i)) old)

-- ---- timing and modelines

-- a register that no piece reaches has no bit in a table's reach
abbrev stores_of : List Piece → List Reach
stores_of ps = map (λ (p : Piece). store_reach p.register (piece_reach p)) ps

pieces-spared : (ps : List Piece) (n : ℕ) → any_reaches (stores_of ps) (a_register n) ≡ false
    → pieces_reach ps n ≡ 0
unfolding any_reaches reaches store_reach reach_of pieces_reach
pieces-spared [] n e = refl
pieces-spared (p ∷ ps) n e =
    let rest = pieces-spared ps n (or_right (not (eqb (piece_reach p) 0) && eqb n p.register) (any_reaches (stores_of ps) (a_register n)) e) in
    by-test (eqb n p.register)
    (λ here. rw (here, rest) (ap (λ (k : ℕ). bit_or k 0) (none here)))
    (λ there. rw there rest)
  where
    none : eqb n p.register ≡ true → piece_reach p ≡ 0
    none here =
        by-test (eqb (piece_reach p) 0) (eqb-true (piece_reach p) 0)
        (λ z. absurd (true≢false (sym (ap₂ (λ (a b : Bool). not a && b) z here) ∙ or_left (not (eqb (piece_reach p) 0) && eqb n p.register) (any_reaches (stores_of ps) (a_register n)) e)))

table-spared : (is_wide : Bool) (n i : ℕ) → any_reaches (timing_reaches is_wide) (a_register n) ≡ false → bit i (table_reach (table is_wide) n) ≡ 0
unfolding timing_reaches table_reach
table-spared is_wide n i e = ap (bit i) (pieces-spared (pieces_of (table is_wide)) n e) ∙ bit-of-zero i

table-unreached : (f g : File) → SameOutsideTable f g → SameUnreached (timing_reaches (wide f)) f g
table-unreached f g same =
    record {
      registers = λ n e. by_bits (register g n) (register f n) (λ i. same.registers n i (table-spared (wide f) n i e));
      palette = λ n e. ap (λ (l : List Colour). get_or l n black) same.palette;
      bank = λ n e. ap (λ (l : List Colour). get_or l n black) same.bank;
      pointer = λ e. ap (λ (q : State). q.pointer) same.state;
      marks = λ e. ap (λ (q : State). q.marks) same.state;
      toggle = λ e. ap (λ (q : State). q.toggle) same.state;
    }

written-refused : (f : File) (t : Timing) → refused (timing_answer f t) ≡ true → (write_timing f t).file ≡ f
unfolding write_timing written_file
written-refused f t e = rw e refl

pub timing-keeps-up : (s : Touched) (f w : File) (t : Timing) → IsSet s → T (agrees_outside s f w)
    → T (agrees_outside (timing_noting s f t).touched (timing_noting s f t).done.file w)
unfolding timing_noting
timing-keeps-up s f w t is old =
    by-test (refused (timing_answer f t))
    (λ e. subst₂ (λ (x : Touched) (g : File). T (agrees_outside x g w)) (sym (set true e)) (sym (written-refused f t e)) old)
    (λ e. subst (λ (x : Touched). T (agrees_outside x (write_timing f t).file w)) (sym (set false e))
    (keeps-up (timing_reaches (wide f)) s f (write_timing f t).file w is (table-unreached f (write_timing f t).file (outside-table f t)) old))
  where
    set : (b : Bool) → refused (timing_answer f t) ≡ b
        → cond (refused (timing_answer f t)) s (noted_all (timing_reaches (wide f)) s) ≡ cond b s (noted_all (timing_reaches (wide f)) s)
    set b e = ap (λ (x : Bool). cond x s (noted_all (timing_reaches (wide f)) s)) e

line-unreached : (f g : File) → SameOutsideMode f g → SameUnreached (line_reaches (wide f)) f g
unfolding line_reaches any_reaches reaches store_reach reach_of flag_reach
line-unreached f g same =
    record {
      registers = λ n e. by_bits (register g n) (register f n)
          (λ i. same.registers n i (table-spared (wide f) n i (or_right (eqb n MISC) (any_reaches (timing_reaches (wide f)) (a_register n)) e))
          (λ misc. absurd (eqb-false n MISC (or_left (eqb n MISC) (any_reaches (timing_reaches (wide f)) (a_register n)) e) misc)));
      palette = λ n e. ap (λ (l : List Colour). get_or l n black) same.palette;
      bank = λ n e. ap (λ (l : List Colour). get_or l n black) same.bank;
      pointer = λ e. ap (λ (q : State). q.pointer) same.state;
      marks = λ e. ap (λ (q : State). q.marks) same.state;
      toggle = λ e. ap (λ (q : State). q.toggle) same.state;
    }

pub line-keeps-up : (s : Touched) (line : List ℕ) (f w : File) (r : Noted ReadLine) → LineNotedKept s line f r → IsSet s → T (agrees_outside s f w)
    → T (agrees_outside r.touched r.done.file w)
line-keeps-up s line f w r kept is old =
    by-test (eqb (code_said r.done.said) 0)
    (λ e. subst (λ (x : Touched). T (agrees_outside x r.done.file w)) (sym (kept.noted ∙ set true e))
    (keeps-up (line_reaches (wide f)) s f r.done.file w is (line-unreached f r.done.file (line-outside line f r.done kept.read)) old))
    (λ e. subst₂ (λ (x : Touched) (g : File). T (agrees_outside x g w)) (sym (kept.noted ∙ set false e))
    (sym (line_refused line f r.done kept.read (eqb-false (code_said r.done.said) 0 e)).0) old)
  where
    set : (b : Bool) → eqb (code_said r.done.said) 0 ≡ b
        → cond (eqb (code_said r.done.said) 0) (noted_all (line_reaches (wide f)) s) s ≡ cond b (noted_all (line_reaches (wide f)) s) s
    set b e = ap (λ (x : Bool). cond x (noted_all (line_reaches (wide f)) s) s) e
