-- Read byte by byte and ended, a text gives the bytes that it means, and is bad exactly where its first bad word stands. Assumes nothing.
use Prim.Native.Nat.{ℕ, ◌+◌}
use mathlib.Core.Bool.{Bool, true, false, cond, true≢false}
use mathlib.Core.Path.{◌≡◌, refl, sym, ap, ◌∙◌, subst}
use mathlib.Core.List.{List, [], ◌∷◌, ◌++◌, append_assoc, append-nil}
use borrow.Author.Tests.{eqb-true}
use lib.Dec.{eqb}
use lib.Seq.{append_snoc}
use Rattle.bits.proofs.Test.{by-test}
use Rattle.feeding.specs.Feeding.{Parts}
use Rattle.feeding.proofs.AsTheWhole.{parts-after, parts-told}
use Rattle.hex_text.specs.declared.state.HexText.{HexText}
use Rattle.hex_text.specs.declared.state.Stand.{Stand}
use Rattle.hex_text.specs.declared.state.Stand.TheVariants.{Between, Digit, Byte, ByteReturn, Return, Comment, Bad}
use Rattle.hex_text.specs.Text.{lines_from, Word, line_words, words_of, good, byte_of, Meaning, nothing, bad_at, with_bytes, meant, meaning}
use Rattle.hex_text.specs.Machine.{held, largest, begun, new_line, standing, stepped, stepped_by, separated_by, ends_word, given_by, line_over}
use Rattle.hex_text.specs.Machine.{ended, ended_by, end_given, after, told, is_bad, bad_place}
use Rattle.hex_text.specs.Text.{digit, digit_value, between, blank}
use Rattle.hex_text.specs.declared.source.Source.{Source}
use Rattle.hex_text.specs.declared.source.Source.TheVariants.{Bytes, Text}
use Rattle.hex_text.specs.Promises.{TellsMeaning, place_of}
use Rattle.hex_text.specs.Source.{source_after, source_told, source_last, source_ended}
use Rattle.hex_text.proofs.InParts.{Any, after-parts, told-parts, text-additive, source-parts}
use Rattle.hex_text.proofs.WordsRead.{at, end_of, Gives, NoFeed, bytes_in, stand_of, digits, bad-gives, held_moved, line_gives}
use Rattle.hex_text.proofs.WordsRead.NoFeed.{empty, more}
use Rattle.hex_text.proofs.WordsRead.Part.{none}

-- ---- what words mean, one list after another

meant-bad : (a b : List Word) → (meant a).bad ≡ true → meant (a ++ b) ≡ meant a
unfolding meant nothing bad_at with_bytes
meant-bad [] b e = absurd (true≢false (sym e))
meant-bad (w ∷ a) b e =
    by-test (good w.bytes) (λ g. rw g (ap (with_bytes (byte_of w.bytes ∷ [])) (meant-bad a b (rw g at e)))) (λ g. rw g)

meant-after : (a b : List Word) → (meant a).bad ≡ false → meant (a ++ b) ≡ with_bytes (meant a).bytes (meant b)
unfolding meant nothing bad_at with_bytes
meant-after [] b e = refl
meant-after (w ∷ a) b e =
    by-test (good w.bytes) (λ g. rw g (ap (with_bytes (byte_of w.bytes ∷ [])) (meant-after a b (rw g at e)))) (λ g. absurd (true≢false (rw g at e)))

-- no bad word, no place
pub no_place : (words : List Word) → (meant words).bad ≡ false → ((meant words).line ≡ 0) × ((meant words).column ≡ 0)
unfolding meant nothing bad_at with_bytes
no_place [] e = (refl, refl)
no_place (w ∷ words) e = by-test (good w.bytes) (λ g. rw g (no_place words (rw g at e))) (λ g. absurd (true≢false (rw g at e)))

-- ---- an LF ends a line as the end of the text does

feed-gives : (s : Stand) → given_by s 0x0A ≡ end_given s
unfolding given_by end_given ends_word blank
feed-gives Between = refl
feed-gives (Digit high) = refl
feed-gives (Byte value) = refl
feed-gives (ByteReturn value) = refl
feed-gives Return = refl
feed-gives Comment = refl
feed-gives Bad = refl

-- the line after one that is over
unfoldable line_after : HexText → HexText
line_after s = cond (is_bad s.stand) s (new_line s)

feed-steps : (stand : Stand) (line column : ℕ) → stepped (record { stand = stand; line = line; column = column }) 0x0A
    ≡ line_after (ended (record { stand = stand; line = line; column = column }))
unfolding line_after stepped stepped_by separated_by new_line standing ended ended_by line_over is_bad digit digit_value between blank
feed-steps Between line column = refl
feed-steps (Digit high) line column = refl
feed-steps (Byte value) line column = refl
feed-steps (ByteReturn value) line column = refl
feed-steps Return line column = refl
feed-steps Comment line column = refl
feed-steps Bad line column = refl

regrouped : (a b c d : List ℕ) → (a ++ (b ++ c)) ++ d ≡ (a ++ b) ++ (c ++ d)
regrouped a b c d = simp append_assoc

-- a line, its LF, and what comes after
feed-on : (s next : HexText) (line-bytes text : List ℕ) (line last : ℕ) (m rest : Meaning) → Gives s line-bytes line m
    → stepped (after s line-bytes) 0x0A ≡ next → Gives next text last rest → Gives s (line-bytes ++ 0x0A ∷ text) last (with_bytes m.bytes rest)
unfolding told after with_bytes end_of
feed-on s next line-bytes text line last m rest r e t =
    record {
      bytes =
          ap (λ (x : List ℕ). x ++ end_given (after s (line-bytes ++ 0x0A ∷ text)).stand) (told-parts s line-bytes (0x0A ∷ text))
          ∙ ap (λ (x : HexText). (told s line-bytes ++ told (after s line-bytes) (0x0A ∷ text)) ++ end_given x.stand) (after-parts s line-bytes (0x0A ∷ text))
          ∙ ap (λ (x : List ℕ). (told s line-bytes ++ (x ++ told (stepped over 0x0A) text)) ++ end_given (after (stepped over 0x0A) text).stand)
          (feed-gives over.stand)
          ∙ ap (λ (x : HexText). (told s line-bytes ++ (end_given over.stand ++ told x text)) ++ end_given (after x text).stand) e
          ∙ regrouped (told s line-bytes) (end_given over.stand) (told next text) (end_given (after next text).stand)
          ∙ ap (λ (x : List ℕ). x ++ (told next text ++ end_given (after next text).stand)) r.bytes
          ∙ ap (λ (x : List ℕ). m.bytes ++ x) t.bytes;
      state = ap ended (after-parts s line-bytes (0x0A ∷ text)) ∙ ap (λ (x : HexText). ended (after x text)) e ∙ t.state;
    }
  where
    over : HexText
    over = after s line-bytes

-- after the LF of a line that has a bad word, and of one that has none
module _ (s : HexText) (line-bytes : List ℕ) (line : ℕ) (m : Meaning) (r : Gives s line-bytes line m) where
  fed : stepped (after s line-bytes) 0x0A ≡ line_after (end_of line m)
  fed = feed-steps (after s line-bytes).stand (after s line-bytes).line (after s line-bytes).column ∙ ap line_after r.state

  fed-bad : m.bad ≡ true → stepped (after s line-bytes) 0x0A ≡ at m.line m.column Bad
  unfolding end_of line_after at is_bad
  fed-bad e = fed ∙ ap line_after (ap (λ (t : Bool). cond t (at m.line m.column Bad) (record { stand = Between; line = held line; column = 1 })) e)

  fed-good : m.bad ≡ false → stepped (after s line-bytes) 0x0A ≡ at (line + 1) 1 Between
  unfolding end_of line_after at is_bad new_line held largest
  fed-good e =
      fed
      ∙ ap line_after (ap (λ (t : Bool). cond t (at m.line m.column Bad) (record { stand = Between; line = held line; column = 1 })) e)
      ∙ ap (λ (n : ℕ). record { stand = Between; line = n; column = 1 }) (held_moved line 1)

as-bad : (m : Meaning) → m.bad ≡ true → with_bytes m.bytes (bad_at m.line m.column) ≡ m
unfolding with_bytes bad_at
as-bad m e = λ i. record { bytes = append-nil m.bytes i; bad = sym e i; line = m.line; column = m.column }

-- ---- a text

-- bytes that give what a meaning says, and end in some line
record GivesInAll (s : HexText) (text : List ℕ) (m : Meaning) : Type 0 where
  last : ℕ
  gives : Gives s text last m

from-line : (line : ℕ) (bytes : List ℕ) → NoFeed bytes → Gives (at line 1 Between) bytes line (meant (line_words line bytes))
unfolding line_words stand_of bytes_in digits
from-line line bytes quiet = line_gives line 1 1 none bytes refl refl quiet

quiet-more : (bytes : List ℕ) (b : ℕ) → NoFeed bytes → eqb b 0x0A ≡ false → NoFeed (bytes ++ b ∷ [])
quiet-more [] b empty h = more h empty
quiet-more (x ∷ bytes) b (more e quiet) h = more e (quiet-more bytes b quiet h)

lines-give : (text line-bytes : List ℕ) (line : ℕ) → NoFeed line-bytes
    → GivesInAll (at line 1 Between) (line-bytes ++ text) (meant (words_of line (lines_from line-bytes text)))
unfolding words_of lines_from
lines-give [] line-bytes line quiet =
    rw (append-nil line-bytes, append-nil (line_words line line-bytes)) (record { last = line; gives = from-line line line-bytes quiet })
lines-give (b ∷ text) line-bytes line quiet =
    by-test (eqb b 0x0A)
    (λ h. rw (h, eqb-true b 0x0A h) (fed-lines (lines-give text [] (line + 1) empty)))
    (λ h. rw h
    (subst (λ (bytes : List ℕ). GivesInAll (at line 1 Between) bytes (meant (words_of line (lines_from (line-bytes ++ b ∷ []) text))))
    (append_snoc line-bytes b text) (lines-give text (line-bytes ++ b ∷ []) line (quiet-more line-bytes b quiet h))))
  where
    here : Meaning
    here = meant (line_words line line-bytes)

    later : List Word
    later = words_of (line + 1) (lines_from [] text)

    fed-lines : GivesInAll (at (line + 1) 1 Between) text (meant later)
        → GivesInAll (at line 1 Between) (line-bytes ++ 0x0A ∷ text) (meant (line_words line line-bytes ++ later))
    fed-lines r =
        by-test here.bad
        (λ e. record {
          last = line;
          gives =
              subst (λ (m : Meaning). Gives (at line 1 Between) (line-bytes ++ 0x0A ∷ text) line m)
              (as-bad here e ∙ sym (meant-bad (line_words line line-bytes) later e))
              (feed-on (at line 1 Between) (at here.line here.column Bad) line-bytes text line line here (bad_at here.line here.column)
              (from-line line line-bytes quiet) (fed-bad (at line 1 Between) line-bytes line here (from-line line line-bytes quiet) e)
              (bad-gives here.line here.column line text));
        })
        (λ e. record {
          last = r.last;
          gives =
              subst (λ (m : Meaning). Gives (at line 1 Between) (line-bytes ++ 0x0A ∷ text) r.last m)
              (sym (meant-after (line_words line line-bytes) later e))
              (feed-on (at line 1 Between) (at (line + 1) 1 Between) line-bytes text line r.last here (meant later)
              (from-line line line-bytes quiet) (fed-good (at line 1 Between) line-bytes line here (from-line line line-bytes quiet) e) r.gives);
        })

-- ---- the theorems

begun-at : begun ≡ at 1 1 Between
unfolding begun at held largest
begun-at = refl

-- a state that a meaning ends in tells it
module _ (line : ℕ) (words : List Word) where
  tells-bad : is_bad (end_of line (meant words)).stand ≡ (meant words).bad
  unfolding end_of at is_bad
  tells-bad = by-test (meant words).bad (λ e. rw e) (λ e. rw e)

  tells-place : bad_place (end_of line (meant words)) ≡ place_of (meant words)
  unfolding end_of at is_bad bad_place place_of
  tells-place = by-test (meant words).bad (λ e. rw e) (λ e. rw e)

-- the whole text at once
pub text-meant : (text : List ℕ) → TellsMeaning text (told begun text ++ end_given (after begun text).stand) (ended (after begun text))
unfolding meaning
text-meant text =
    record {
      bytes = all.gives.bytes;
      bad = ap (λ (s : HexText). is_bad s.stand) all.gives.state ∙ tells-bad all.last words;
      place = ap bad_place all.gives.state ∙ tells-place all.last words;
    }
  where
    words : List Word
    words = words_of 1 (lines_from [] text)

    all : GivesInAll begun text (meant words)
    all = subst (λ (s : HexText). GivesInAll s text (meant words)) (sym begun-at) (lines-give text [] 1 empty)

-- a text in parts, however it is cut
pub parts-meant : {text put : List ℕ} {s : HexText} → Parts Any after told begun text put s → TellsMeaning text (put ++ end_given s.stand) (ended s)
parts-meant {text} {put} {s} parts =
    subst (λ (t : HexText). TellsMeaning text (put ++ end_given t.stand) (ended t)) (sym (parts-after text-additive parts))
    (subst (λ (bytes : List ℕ). TellsMeaning text (bytes ++ end_given (after begun text).stand) (ended (after begun text)))
    (sym (parts-told text-additive parts)) (text-meant text))

-- an input that is a text, in parts, however it is cut
pub textual-input-meant : {text put : List ℕ} {s : Source} → Parts Any source_after source_told (Text begun) text put s
    → (over : HexText) × (source_ended s ≡ Text over) × TellsMeaning text (put ++ source_last s) over
unfolding source_after source_told source_last source_ended
textual-input-meant {text} {put} {s} parts = (
  ended (after begun text),
  ap source_ended (source-parts parts).1,
  subst (λ (t : Source). TellsMeaning text (put ++ source_last t) (ended (after begun text))) (sym (source-parts parts).1)
      (subst (λ (bytes : List ℕ). TellsMeaning text (bytes ++ end_given (after begun text).stand) (ended (after begun text)))
      (sym (source-parts parts).0) (text-meant text)),
)

-- an input of bytes: they are put as they are
pub bytes-input-put : {bytes put : List ℕ} {s : Source} → Parts Any source_after source_told Bytes bytes put s → put ≡ bytes
unfolding source_told
bytes-input-put parts = (source-parts parts).0
