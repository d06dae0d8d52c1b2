-- Whatever parts an input comes in, its lines are reported, each by all of it. Assumes nothing.
use Prim.Native.Nat.{ℕ, zero, suc, ◌+◌, ◌-◌}
use mathlib.Core.Bool.{Bool, true, false, true≢false, cond}
use mathlib.Core.List.{List, [], ◌∷◌, ◌++◌, append_assoc, append-nil, map}
use mathlib.Core.Path.{◌≡◌, refl, sym, ap, ap₂, ◌∙◌, subst}
use native.Mathlib.Omega.{arith}
use borrow.Author.Tests.{eqb-true}
use lib.Dec.{eqb}
use lib.ListN.{length, take, drop, length-append, length-drop, length-map}
use lib.Seq.{take-add, take_at, take-nil}
use Rattle.bits.proofs.Test.{by-test}
use Rattle.file.specs.declared.registers.File.{File}
use Rattle.mode_file.specs.Into.{ReadInto}
use Rattle.mode_file.specs.declared.into.ReadLine.{ReadLine}
use Rattle.mode_lines.specs.declared.parts.Progress.{Progress}
use Rattle.mode_lines.specs.Inputs.{AllReported, Input, InParts, nothing, more, input_of, on, on_byte}
use Rattle.mode_lines.specs.Kept.{kept_text}
use Rattle.mode_lines.specs.Lines.{has_newline, up_to}
use Rattle.mode_lines.specs.Parts.{Held, PartReported, Reports, none, then, behind, last_number, line_kept, taken, take_lines, with_line, with_part}
use Rattle.mode_lines.proofs.Cut.{up-to-take}
use Rattle.mode_lines.proofs.FirstBytes.{told-by-first}
use Rattle.mode_lines.proofs.Laying.{kept-room, take-over}
use Rattle.mode_lines.proofs.ReportsOfLines.{reports-then}

-- one part behind another
on-append : (i : Input) (a b : List ℕ) → on i (a ++ b) ≡ on (on i a) b
unfolding on
on-append i [] b = refl
on-append i (x ∷ a) b = on-append (on_byte i x) a b

abbrev input : List (List ℕ) → List ℕ → Input
input lines begun = record { lines = lines; begun = begun }

on-newline : (i : Input) (b : ℕ) → eqb b 0x0A ≡ true → on_byte i b ≡ input (i.lines ++ i.begun ∷ []) []
unfolding on_byte
on-newline i b e = rw e

on-other : (i : Input) (b : ℕ) → eqb b 0x0A ≡ false → on_byte i b ≡ input i.lines (i.begun ++ b ∷ [])
unfolding on_byte
on-other i b e = rw e

-- bytes before a newline belong to the line that is begun
on_line : (i : Input) (part : List ℕ) → on i (up_to part) ≡ input i.lines (i.begun ++ up_to part)
unfolding on up_to
on_line i [] = ap (input i.lines) (sym (append-nil i.begun))
on_line i (b ∷ s) =
    by-test (eqb b 0x0A)
    (λ e. rw e (ap (input i.lines) (sym (append-nil i.begun))))
    (λ e. rw e
    (ap (λ (j : Input). on j (up_to s)) (on-other i b e)
    ∙ on_line (input i.lines (i.begun ++ b ∷ [])) s
    ∙ ap (input i.lines) (append_assoc i.begun (b ∷ []) (up_to s))))

-- a newline makes it whole
on-whole : (i : Input) (part : List ℕ) → on i (up_to part ++ 0x0A ∷ []) ≡ input (i.lines ++ (i.begun ++ up_to part) ∷ []) []
unfolding on on_byte
on-whole i part = on-append i (up_to part) (0x0A ∷ []) ∙ ap (λ (j : Input). on j (0x0A ∷ [])) (on_line i part)

-- a part's first line with its newline
line-whole : (part : List ℕ) → has_newline part ≡ true → take (length (up_to part) + 1) part ≡ up_to part ++ 0x0A ∷ []
unfolding up_to has_newline
line-whole [] = λ h. absurd (true≢false (sym h))
line-whole (b ∷ s) =
    by-test (eqb b 0x0A)
    (λ e. rw e (λ h. ap (λ (x : ℕ). x ∷ []) (eqb-true b 0x0A e)))
    (λ e. rw e (λ h. ap (λ (k : ℕ). take k (b ∷ s)) (let z : suc (length (up_to s)) + 1 ≡ suc (length (up_to s) + 1) = omega arith in z)
    ∙ ap (λ (l : List ℕ). b ∷ l) (line-whole s h)))

-- what is held of an input: its lines by as many first bytes as there is room for
record Holds (room : ℕ) (h : Held) (i : Input) : Type 0 where
  pub lines : h.lines ≡ map (take room) i.lines
  pub begun : take h.count h.kept ≡ take room i.begun
  pub long : length h.kept ≡ room

map_snoc : (room : ℕ) (ls : List (List ℕ)) (l : List ℕ) → map (take room) (ls ++ l ∷ []) ≡ map (take room) ls ++ take room l ∷ []
map_snoc room [] l = refl
map_snoc room (x ∷ ls) l = ap (λ (r : List (List ℕ)). take room x ∷ r) (map_snoc room ls l)

module _ (room : ℕ) (h : Held) (i : Input) (t : Holds room h i) (part : List ℕ) where
  line_first : line_kept h part ≡ take room (i.begun ++ up_to part)
  unfolding line_kept kept_text
  line_first =
      ap₂ (λ (n : ℕ) (l : List ℕ). take n (l ++ up_to part)) t.long t.begun ∙ take-over room i.begun (up_to part)

  still-long : length (line_kept h part ++ drop (length (line_kept h part)) h.kept) ≡ room
  unfolding line_kept
  still-long =
      length-append (line_kept h part) (drop (length (line_kept h part)) h.kept)
      ∙ omega (arith, length-drop (length (line_kept h part)) h.kept, kept-room h.kept h.count (up_to part), t.long)

  holds-part : Holds room (with_part h part) (input i.lines (i.begun ++ up_to part))
  unfolding with_part
  holds-part =
      record {
        lines = t.lines;
        begun = take_at (line_kept h part) (drop (length (line_kept h part)) h.kept) (length (line_kept h part)) refl ∙ line_first;
        long = still-long;
      }

  holds-line : Holds room (with_line h part) (input (i.lines ++ (i.begun ++ up_to part) ∷ []) [])
  unfolding with_line
  holds-line =
      record {
        lines =
            ap₂ (λ (ls : List (List ℕ)) (l : List ℕ). ls ++ l ∷ []) t.lines line_first
            ∙ sym (map_snoc room i.lines (i.begun ++ up_to part));
        begun = sym (take-nil room);
        long = still-long;
      }

-- so many bytes of a part were taken, and this is held of the input with them
record Takes (room most : ℕ) (h : Held) (i : Input) (part : List ℕ) : Type 0 where
  pub size : ℕ
  pub used : (take_lines most h part).used ≡ h.used + size
  pub holds : Holds room (take_lines most h part) (on i (take size part))

module _ (room most : ℕ) (h : Held) (i : Input) (t : Holds room h i) (b : ℕ) (s : List ℕ) where
  abbrev Part : List ℕ
  Part = b ∷ s

  stepped : (x : Bool) → has_newline Part ≡ x → take_lines (suc most) h Part ≡ cond x (take_lines most (with_line h Part) (behind Part)) (with_part h Part)
  unfolding take_lines
  stepped x e = ap (λ (y : Bool). cond y (take_lines most (with_line h Part) (behind Part)) (with_part h Part)) e

  takes_part : has_newline Part ≡ false → Takes room (suc most) h i Part
  unfolding with_part
  takes_part e =
      record {
        size = length (up_to Part);
        used = ap (λ (x : Held). x.used) (stepped false e);
        holds =
            subst (λ (x : Held). Holds room x (on i (take (length (up_to Part)) Part))) (sym (stepped false e))
            (subst (λ (j : Input). Holds room (with_part h Part) j) (sym (ap (on i) (up-to-take Part) ∙ on_line i Part)) (holds-part room h i t Part));
      }

  takes-line : has_newline Part ≡ true → Takes room most (with_line h Part) (input (i.lines ++ (i.begun ++ up_to Part) ∷ []) []) (behind Part) → Takes room (suc most) h i Part
  unfolding with_line behind
  takes-line e w =
      let size : ℕ = length (up_to Part) + 1 in
      let fed : on (input (i.lines ++ (i.begun ++ up_to Part) ∷ []) []) (take w.size (behind Part)) ≡ on i (take (size + w.size) Part) =
      ap (λ (j : Input). on j (take w.size (behind Part))) (sym (ap (on i) (line-whole Part e) ∙ on-whole i Part))
      ∙ sym (on-append i (take size Part) (take w.size (behind Part)))
      ∙ ap (on i) (sym (take-add size w.size Part)) in
      record {
        size = size + w.size;
        used = ap (λ (x : Held). x.used) (stepped true e) ∙ w.used ∙ omega arith;
        holds =
            subst (λ (x : Held). Holds room x (on i (take (size + w.size) Part))) (sym (stepped true e))
            (subst (λ (j : Input). Holds room (take_lines most (with_line h Part) (behind Part)) j) fed w.holds);
      }

takes : (room most : ℕ) (h : Held) (i : Input) (part : List ℕ) → Holds room h i → Takes room most h i part
unfolding take_lines on
takes room zero h i part t = record { size = 0; used = omega arith; holds = t }
takes room (suc most) h i [] t = record { size = 0; used = omega arith; holds = t }
takes room (suc most) h i (b ∷ s) t =
    by-test (has_newline (b ∷ s))
    (λ e. takes-line room most h i t b s e (takes room most _ _ (behind (b ∷ s)) (holds-line room h i t (b ∷ s))))
    (takes_part room most h i t b s)

-- what is read of a line's first 256 bytes is read of the line
into-whole : (line : List ℕ) (f : File) (read : ReadLine) → ReadInto (take 256 line) f read → ReadInto line f read
into-whole line f read w = record { parsed = w.parsed; told = told-by-first line w.parsed w.told; answers = w.answers }

-- by all of each line
reports-whole : (f : File) (number : ℕ) (lines : List (List ℕ)) (text : List ℕ) → Reports f number (map (take 256) lines) text → Reports f number lines text
reports-whole f number [] text none = none
reports-whole f number (l ∷ ls) text (then line read into r) = then l read (into-whole l f read into) (reports-whole f (suc number) ls _ r)

-- what lines came before plays no part
on-front : (ls : List (List ℕ)) (begun s : List ℕ) → on (input ls begun) s ≡ input (ls ++ (on (input [] begun) s).lines) (on (input [] begun) s).begun
unfolding on
on-front ls begun [] = ap (λ (l : List (List ℕ)). input l begun) (sym (append-nil ls))
on-front ls begun (b ∷ s) =
    by-test (eqb b 0x0A)
    (λ e. ap (λ (j : Input). on j s) (on-newline (input ls begun) b e)
    ∙ on-front (ls ++ begun ∷ []) [] s
    ∙ ap (λ (l : List (List ℕ)). input l (on (input [] []) s).begun) (append_assoc ls (begun ∷ []) (on (input [] []) s).lines)
    ∙ sym (ap (λ (j : Input). input (ls ++ j.lines) j.begun) (ap (λ (j : Input). on j s) (on-newline (input [] begun) b e) ∙ on-front (begun ∷ []) [] s)))
    (λ e. ap (λ (j : Input). on j s) (on-other (input ls begun) b e)
    ∙ on-front ls (begun ++ b ∷ []) s
    ∙ sym (ap (λ (j : Input). input (ls ++ (on j s).lines) (on j s).begun) (on-other (input [] begun) b e)))

-- a part more
module _ (f : File) {bytes text : List ℕ} {number count : ℕ} {kept : List ℕ} (a : AllReported f bytes text number count kept) (long : length kept ≡ 256)
    (part kept' reports₀ reports : List ℕ) (r : Progress) (w : PartReported f number count part kept kept' reports₀ reports r) where
  abbrev Before : Input
  Before = input [] (input_of bytes).begun

  taking : Takes 256 (last_number number (length reports₀) - number) (record { lines = []; kept = kept; count = count; used = 0 }) Before part
  taking = takes 256 _ _ Before part (record { lines = refl; begun = a.begun; long = long })

  abbrev After : Input
  After = on Before (take r.used part)

  held_after : Holds 256 (taken number (length reports₀) count kept part) After
  unfolding taken
  held_after = subst (λ (n : ℕ). Holds 256 (taken number (length reports₀) count kept part) (on Before (take n part))) (let z : taking.size ≡ r.used = omega (arith, taking.used, w.used) in z) taking.holds

  all_after : input_of (bytes ++ take r.used part) ≡ input ((input_of bytes).lines ++ After.lines) After.begun
  unfolding input_of
  all_after = on-append (input [] []) bytes (take r.used part) ∙ on-front (input_of bytes).lines (input_of bytes).begun (take r.used part)

  text-after : take r.end reports ≡ w.text
  text-after = ap₂ take w.ended w.stored ∙ take_at w.text (drop (length w.text) reports₀) (length w.text) refl

  reported-after : Reports f number After.lines (take r.end reports)
  reported-after =
      subst (Reports f number After.lines) (sym text-after)
      (reports-whole f number After.lines w.text (subst (λ (ls : List (List ℕ)). Reports f number ls w.text) held_after.lines w.told))

  part-reported : AllReported f (bytes ++ take r.used part) (text ++ take r.end reports) r.number r.count kept'
  part-reported =
      record {
        reported =
            subst (λ (j : Input). Reports f 0 j.lines (text ++ take r.end reports)) (sym all_after)
            (reports-then a.reported (subst (λ (n : ℕ). Reports f n After.lines (take r.end reports)) (a.numbered ∙ omega arith) reported-after));
        numbered =
            w.numbered
            ∙ omega (
              arith,
              a.numbered,
              ap length held_after.lines,
              length-map After.lines (take 256),
              ap (λ (j : Input). length j.lines) all_after,
              length-append (input_of bytes).lines After.lines,
            );
        begun = ap₂ take w.counted w.held ∙ held_after.begun ∙ ap (λ (j : Input). take 256 j.begun) (sym all_after);
      }

  kept-long : length kept' ≡ 256
  kept-long = ap length w.held ∙ held_after.long

-- however an input comes in parts, all its lines are reported
in_parts : {f : File} {bytes text : List ℕ} {number count : ℕ} {kept : List ℕ} → InParts f bytes text number count kept
    → AllReported f bytes text number count kept × (length kept ≡ 256)
unfolding input_of on
in_parts (nothing kept e) = (record { reported = none; numbered = refl; begun = refl }, e)
in_parts {f} (more part kept' reports₀ reports r before w) =
    let a = in_parts before in
    (part-reported f a.0 a.1 part kept' reports₀ reports r w, kept-long f a.0 a.1 part kept' reports₀ reports r w)

pub all-reported : {f : File} {bytes text : List ℕ} {number count : ℕ} {kept : List ℕ} → InParts f bytes text number count kept
    → AllReported f bytes text number count kept
all-reported w = (in_parts w).0
