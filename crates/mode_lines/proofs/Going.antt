-- A part, taken line by line: what holds between two lines, one line more, and the end. Assumes nothing.
use Prim.Native.Nat.{ℕ, zero, suc, ◌+◌, ◌-◌, ◌*◌, ◌/◌, ◌≤◌, ◌<◌}
use mathlib.Core.Bool.{Bool, true, false, cond}
use mathlib.Core.List.{List, [], ◌∷◌, ◌++◌}
use mathlib.Core.Path.{◌≡◌, refl, sym, ap, ap₂, ◌∙◌, subst}
use native.Mathlib.Omega.{arith}
use lib.ListN.{length, take, drop, length-append, length-drop, drop_of_length-le}
use lib.Seq.{length-take-le, take_all, take-append_seam, drop-append-add, drop-drop}
use Rattle.io.specs.Counts.{IsPrefixLen}
use Rattle.file.specs.declared.answer.Answer.TheVariants.{Done}
use Rattle.file.specs.declared.registers.File.{File}
use Rattle.file.specs.Answers.{code_of, refused}
use Rattle.text.specs.Lent.{Lined, behind_by, placed_by}
use Rattle.mode_lines.specs.declared.parts.Progress.{Progress}
use Rattle.mode_lines.specs.Kept.{kept_text}
use Rattle.mode_lines.specs.Lines.{has_newline, up_to}
use Rattle.mode_lines.specs.Parts.{Held, NextReported, PartReported, Reports, none, behind, last_number, line_kept, next_by, taken, take_lines, with_line, with_part}
use Rattle.mode_lines.specs.Report.{report_line}
use Rattle.mode_lines.proofs.Cut.{up-to-all, up-to-most, ended-less}
use Rattle.mode_lines.proofs.Laying.{kept-length, kept-start}
use Rattle.mode_lines.proofs.ReportsOfLines.{reports-more}

-- one line of a part that has some bytes left
take_step : (most : ℕ) (h : Held) (part : List ℕ) → 0 < length part
    → take_lines (suc most) h part ≡ cond (has_newline part) (take_lines most (with_line h part) (behind part)) (with_part h part)
unfolding take_lines
take_step most h [] l = absurd (omega (arith, l))
take_step most h (b ∷ s) l = refl

-- no more of it
take-end : (most : ℕ) (h : Held) → take_lines most h [] ≡ h
unfolding take_lines
take-end zero h = refl
take-end (suc most) h = refl

-- what is left of a part from a place on
pub rest_all : (part : List ℕ) (at : ℕ) → take (length part - at) (drop at part) ≡ drop at part
rest_all part at = take_all (length part - at) (drop at part) (omega (arith, length-drop at part))

-- a text behind what stands at a buffer's start
stored_more : (text more buffer reports : List ℕ) → reports ≡ text ++ drop (length text) buffer
    → take (length text) reports ++ more ++ drop (length text + length more) reports ≡ (text ++ more) ++ drop (length (text ++ more)) buffer
stored_more text more buffer reports e =
    ap₂ (λ (a b : List ℕ). a ++ more ++ b)
    (ap (take (length text)) e ∙ take-append_seam text (drop (length text) buffer))
    (ap (drop (length text + length more)) e ∙ drop-append-add text (drop (length text) buffer) (length more) ∙ drop-drop (length more) (length text) buffer)
    ∙ ap (λ (n : ℕ). (text ++ more) ++ drop n buffer) (sym (length-append text more))

abbrev held : List (List ℕ) → List ℕ → ℕ → ℕ → Held
held lines kept count used = record { lines = lines; kept = kept; count = count; used = used }

same-held : {lines lines' : List (List ℕ)} {kept kept' : List ℕ} {count count' used used' : ℕ} → lines ≡ lines' → kept ≡ kept' → count ≡ count' → used ≡ used'
    → held lines kept count used ≡ held lines' kept' count' used'
same-held a b c d = cc

module _ (f : File) (number count : ℕ) (part kept₀ reports₀ : List ℕ) (last : ℕ) where
  -- the lines that were taken, and their reports; with the rest of the part taken, this is the part taken
  pub record Going (kept reports : List ℕ) (done : Progress) : Type 0 where
    pub lines : List (List ℕ)
    pub text : List ℕ
    pub goes : take_lines (last - done.number) (held lines kept done.count done.used) (drop done.used part)
        ≡ take_lines (last - number) (held [] kept₀ count 0) part
    pub told : Reports f number lines text
    pub numbered : done.number ≡ number + length lines
    pub within : done.number ≤ last
    pub ended : done.end ≡ length text
    pub stored : reports ≡ text ++ drop (length text) reports₀
    pub short : length text ≤ 256 * length lines
    pub used : done.used ≤ length part
    pub long : length kept ≡ length kept₀
    pub wide : length reports ≡ length reports₀

  pub going-none : number ≤ last → Going kept₀ reports₀ (record { used = 0; number = number; count = count; end = 0 })
  going-none h =
      record {
        lines = [];
        text = [];
        goes = refl;
        told = none;
        numbered = omega arith;
        within = h;
        ended = refl;
        stored = refl;
        short = omega arith;
        used = omega arith;
        long = refl;
        wide = refl;
      }

  module _ {kept reports : List ℕ} {done : Progress} (g : Going kept reports done) where
    -- there is room for one more report
    pub going-room : last ≤ number + length reports₀ / 256 → done.number < last → done.end + 256 ≤ length reports
    going-room e h = omega (arith, g.ended, g.short, g.numbered, g.wide, e, h)

    rest-length : length (drop done.used part) ≡ length part - done.used
    rest-length = length-drop done.used part

    abbrev Rest : List ℕ
    Rest = drop done.used part

    abbrev Now : Held
    Now = held g.lines kept done.count done.used

    module _ (more : done.number < last) (some : done.used < length part) (kept' reports' : List ℕ) (r : Progress)
        (n : NextReported f done Rest kept kept' reports reports' r) where
      stepped : take_lines (last - done.number) Now Rest
          ≡ cond (has_newline Rest) (take_lines (last - done.number - 1) (with_line Now Rest) (behind Rest)) (with_part Now Rest)
      stepped =
          ap (λ (k : ℕ). take_lines k Now Rest) (let e : last - done.number ≡ suc (last - done.number - 1) = omega (arith, more) in e)
          ∙ take_step (last - done.number - 1) Now Rest (omega (arith, rest-length, some))

      stays : length kept' ≡ length kept₀
      stays = kept-length n.took.kept ∙ g.long

      -- what is kept of the line, and where it stands
      line : take n.taken.count kept' ≡ line_kept Now Rest
      unfolding line_kept
      line = kept-start n.took.kept

      kept-now : line_kept Now Rest ++ drop (length (line_kept Now Rest)) kept ≡ kept'
      unfolding line_kept
      kept-now =
          ap (λ (k : ℕ). kept_text kept done.count (up_to Rest) ++ drop k kept) (sym n.took.kept.size) ∙ sym n.took.kept.stored

      used-by : (b : Bool) → has_newline Rest ≡ b → r.used ≡ done.used + length (up_to Rest) + cond b 1 0
      used-by b e =
          n.used ∙ ap (λ (k : ℕ). done.used + k) (n.took.used ∙ ap (λ (x : Bool). length (up_to Rest) + cond x 1 0) e)
          ∙ (let z : done.used + (length (up_to Rest) + cond b 1 0) ≡ done.used + length (up_to Rest) + cond b 1 0 = omega arith in z)

      -- the line goes on behind the part
      going-open : has_newline Rest ≡ false → next_by false f done kept' reports reports' n.taken r → Going kept' reports' r
      unfolding with_part line_kept
      going-open e x =
          let all : r.used ≡ length part = omega (arith, used-by false e, up-to-all Rest e, rest-length, some) in
          let same : with_part Now Rest ≡ held g.lines kept' r.count r.used =
          same-held refl kept-now (sym n.took.kept.size ∙ sym x.1) (omega (arith, used-by false e)) in
          record {
            lines = g.lines;
            text = g.text;
            goes =
                ap₂ (λ (k : ℕ) (s : List ℕ). take_lines (last - k) (held g.lines kept' r.count r.used) s) x.0
                (drop_of_length-le part {i = r.used} (omega (arith, all)))
                ∙ take-end (last - done.number) (held g.lines kept' r.count r.used)
                ∙ sym same
                ∙ ap (λ (b : Bool). cond b (take_lines (last - done.number - 1) (with_line Now Rest) (behind Rest)) (with_part Now Rest)) (sym e)
                ∙ sym stepped
                ∙ g.goes;
            told = g.told;
            numbered = x.0 ∙ g.numbered;
            within = omega (arith, x.0, g.within);
            ended = x.2 ∙ g.ended;
            stored = x.3 ∙ g.stored;
            short = g.short;
            used = omega (arith, all);
            long = stays;
            wide = ap length x.3 ∙ g.wide;
          }

      -- or it is whole, and reported
      module _ (room : done.end + 256 ≤ length reports) (e : has_newline Rest ≡ true) (x : next_by true f done kept' reports reports' n.taken r) where
        abbrev Line : List ℕ
        Line = report_line (number + length g.lines) x.2.read

        said : Lined (Done 0) (length g.text) Line reports reports' (record { answer = Done 0; end = r.end })
        said =
            subst (λ (k : ℕ). Lined (Done 0) (length g.text) (report_line k x.2.read) reports reports' (record { answer = Done 0; end = r.end })) g.numbered
            (subst (λ (k : ℕ). Lined (Done 0) k (report_line done.number x.2.read) reports reports' (record { answer = Done 0; end = r.end })) g.ended
            (rw (← x.2.lined.answered) at x.2.lined))

        ends : r.end ≡ length g.text + length Line
        unfolding behind_by refused code_of
        ends = said.ended

        laid : reports' ≡ (g.text ++ Line) ++ drop (length (g.text ++ Line)) reports₀
        unfolding placed_by refused code_of
        laid = said.bytes ∙ stored_more g.text Line reports₀ reports g.stored

        going-line : Going kept' reports' r
        unfolding with_line line_kept behind
        going-line =
            let same : with_line Now Rest ≡ held (g.lines ++ take n.taken.count kept' ∷ []) kept' r.count r.used =
            same-held (ap (λ (l : List ℕ). g.lines ++ l ∷ []) (sym line)) kept-now (sym x.1) (sym (used-by true e)) in
            record {
              lines = g.lines ++ take n.taken.count kept' ∷ [];
              text = g.text ++ Line;
              goes =
                  ap₂ (λ (k j : ℕ). take_lines k (held (g.lines ++ take n.taken.count kept' ∷ []) kept' r.count r.used) (drop j part))
                  (let z : last - r.number ≡ last - done.number - 1 = omega (arith, x.0, more) in z)
                  (let z : r.used ≡ done.used + (length (up_to Rest) + 1) = omega (arith, used-by true e) in z)
                  ∙ ap₂ (λ (h : Held) (s : List ℕ). take_lines (last - done.number - 1) h s) (sym same) (sym (drop-drop (length (up_to Rest) + 1) done.used part))
                  ∙ ap (λ (b : Bool). cond b (take_lines (last - done.number - 1) (with_line Now Rest) (behind Rest)) (with_part Now Rest)) (sym e)
                  ∙ sym stepped
                  ∙ g.goes;
              told = reports-more (take n.taken.count kept') x.2.read g.told x.2.into;
              numbered = omega (arith, x.0, g.numbered, length-append g.lines (take n.taken.count kept' ∷ []));
              within = omega (arith, x.0, more);
              ended = ends ∙ sym (length-append g.text Line);
              stored = laid;
              short =
                  omega (
                    arith,
                    ends,
                    n.short,
                    g.ended,
                    g.short,
                    length-append g.text Line,
                    length-append g.lines (take n.taken.count kept' ∷ []),
                  );
              used = omega (arith, used-by true e, rest-length, some, up-to-most Rest, ended-less Rest e);
              long = stays;
              wide =
                  ap length laid ∙ length-append (g.text ++ Line) (drop (length (g.text ++ Line)) reports₀)
                  ∙ omega (
                    arith,
                    length-drop (length (g.text ++ Line)) reports₀,
                    length-append g.text Line,
                    ends,
                    n.short,
                    room,
                    g.wide,
                  );
            }

      -- one line more, or what the part has of it
      pub going_on : done.end + 256 ≤ length reports → Going kept' reports' r
      going_on room = by-newline n.taken.ended (sym n.took.ended) n.next
        where
          by-newline : (b : Bool) → has_newline Rest ≡ b → next_by b f done kept' reports reports' n.taken r → Going kept' reports' r
          by-newline true e x = going-line room e x
          by-newline false e x = going-open e x

      -- some bytes of the part
      pub going-far : done.used < r.used
      going-far = by-newline (has_newline Rest) refl
        where
          by-newline : (b : Bool) → has_newline Rest ≡ b → done.used < r.used
          by-newline true e = omega (arith, used-by true e)
          by-newline false e = omega (arith, used-by false e, up-to-all Rest e, rest-length, some)

    -- at the end
    ended-as : take_lines (last - done.number) Now Rest ≡ Now → last ≡ last_number number (length reports₀)
        → PartReported f number count part kept₀ kept reports₀ reports done × (IsPrefixLen done.end reports × (done.used ≤ length part))
    unfolding taken
    ended-as e l =
        let all : Now ≡ taken number (length reports₀) count kept₀ part = sym e ∙ g.goes ∙ ap (λ (k : ℕ). take_lines (k - number) (held [] kept₀ count 0) part) l in
        let few : done.end ≤ length reports =
        omega (arith, g.ended, ap length g.stored, length-append g.text (drop (length g.text) reports₀)) in (
          record {
            used = ap (λ (h : Held). h.used) all;
            held = ap (λ (h : Held). h.kept) all;
            counted = ap (λ (h : Held). h.count) all;
            numbered = g.numbered ∙ ap (λ (h : Held). number + length h.lines) all;
            text = g.text;
            told = subst (λ (h : Held). Reports f number h.lines g.text) all g.told;
            ended = g.ended;
            stored = g.stored;
          },
          ((few, sym (length-take-le done.end reports few)), g.used),
        )

    abbrev Ended : Type 0
    Ended = PartReported f number count part kept₀ kept reports₀ reports done × (IsPrefixLen done.end reports × (done.used ≤ length part))

    -- the part is used up
    pub part-ended : length part ≤ done.used → last ≡ last_number number (length reports₀) → Ended
    part-ended h = ended-as (ap (take_lines (last - done.number) Now) (drop_of_length-le part h) ∙ take-end (last - done.number) Now)

    -- or room or numbers are
    pub lines-ended : last ≤ done.number → last ≡ last_number number (length reports₀) → Ended
    unfolding take_lines
    lines-ended h = ended-as (ap (λ (k : ℕ). take_lines k Now Rest) (let z : last - done.number ≡ 0 = omega (arith, h) in z))
