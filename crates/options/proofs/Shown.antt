-- A word as it is shown, a message, and how long they are. Assumes nothing.
use Prim.Native.Nat.{ℕ, ◌+◌, ◌*◌, ◌≤◌, ◌<◌, min}
use Rattle.std.proofs.Common.{Option, Some, None}
use mathlib.Core.Bool.{cond}
use mathlib.Core.List.{List, [], ◌∷◌, ◌++◌}
use mathlib.Core.Path.{◌≡◌, refl, sym, ap, ◌∙◌}
use native.Mathlib.Numerals.{add-one}
use native.Mathlib.Omega.{arith}
use borrow.Author.Tests.{leb-true, leb-false}
use lib.Dec.{eqb, leb, ltb}
use lib.ListN.{length, take, drop, get_or, length-append, length-take, drop_of_length-le}
use lib.Seq.{drop-cons, take_all, take-append-le}
use Rattle.io.specs.Counts.{IsPrefixLen}
use Rattle.bits.proofs.Test.{by-test}
use Rattle.file.specs.Readers.{ascii}
use Rattle.text.specs.declared.placed.Placed.{Placed}
use Rattle.text.specs.declared.fixed.Line.{Line}
use Rattle.text.specs.Fixed.{behind, blank, byte_behind, text_of}
use Rattle.text.specs.Lent.{Lined, room_answer}
use Rattle.text.specs.Text.{newline}
use Rattle.text.proofs.Standing.{stands}
use Rattle.escaping.specs.Escaped.{escaped_text}
use Rattle.escaping.proofs.Sizes.{text-most}
use Rattle.options.specs.declared.types.Refused.{Refused}
use Rattle.options.specs.declared.types.Command.{Command}
use Rattle.options.specs.declared.types.Command.TheVariants.{Replay, Snapshot, Geometry, Modeline, Clocks, Portable, Explain, Bytes}
use Rattle.options.specs.declared.types.Wrong.{Wrong}
use Rattle.options.specs.declared.types.Wrong.TheVariants.{NoCommand, UnknownCommand, UnknownOption, NoValue}
use Rattle.options.specs.declared.types.Wrong.TheVariants.{NoTwoValues, NoSuchChip, NoSuchEngine, NotWithValue}
use Rattle.options.specs.declared.types.Wrong.TheVariants.{Twice, WideWithOf, NoFile, OneFileMore}
use Rattle.options.specs.declared.types.Wrong.TheVariants.{EmptyName, BothStandardInput, TooManyWords, TooLong}
use Rattle.options.specs.Words.{word_at}
use Rattle.options.specs.Table.{command_name}
use Rattle.options.specs.Lines.{line_most, shown}
use Rattle.options.specs.Messages.{filled, message, message_by, name_of, piece_of, wrong_line}
use Rattle.options.proofs.Added.{added-append, all-kept, then-added}

-- ---- a word

cut : (word : List ℕ) (size : ℕ) → size ≡ min (length word) 64 → take size word ≡ take 64 word
cut word size e =
    by-test (leb 64 (length word))
    (λ t. let all : size ≡ 64 = omega (arith, e, leb-true 64 (length word) t) in ap (λ (n : ℕ). take n word) all)
    (λ t.
    let short = leb-false 64 (length word) t in
    take_all size word (omega (arith, e, short)) ∙ sym (take_all 64 word (omega (arith, short))))

module _ (word : List ℕ) (size : ℕ) (e : size ≡ min (length word) 64) (before after : List ℕ) (room : length before ≡ 256) (r : Placed)
    (lined : Lined (room_answer before 0 (escaped_text (take size word))) 0 (escaped_text (take size word)) before after r) where
  short : length (escaped_text (take size word)) ≤ length before
  short = omega (arith, room, text-most (take size word) 64 (omega (arith, length-take size word, e)))

  -- it stands escaped at the start of the buffer
  pub stood : IsPrefixLen r.end after × (take r.end after ≡ escaped_text (take 64 word))
  stood =
      let all = stands (escaped_text (take size word)) before after short r lined in
      let text = escaped_text (take size word) in (
        all.0,
        ap (λ (l : List ℕ). take r.end l) all.1.1 ∙ take-append-le r.end text (drop r.end before) (omega (arith, all.1.0))
            ∙ take_all r.end text (omega (arith, all.1.0)) ∙ ap escaped_text (cut word size e),
      )

-- ---- a message

module _ (refused : Refused) (words : List ℕ) where
  pub next-piece : (l : Line line_most) (said : List ℕ) (i : ℕ) → i < length said
      → behind (behind l (piece_of refused words (get_or said i 0))) (filled refused words (drop (i + 1) said)) ≡ behind l (filled refused words (drop i said))
  unfolding filled
  next-piece l said i h =
      added-append l (piece_of refused words (get_or said i 0)) (filled refused words (drop (i + 1) said)) ∙ rw (drop-cons said i 0 h, add-one)

  pub no-piece : (l : Line line_most) (said : List ℕ) (i : ℕ) → length said ≤ i → behind l (filled refused words (drop i said)) ≡ l
  unfolding filled behind
  no-piece l said i h = rw (drop_of_length-le said h)

  -- the program's name before it, and a newline after it
  pub framed : {a b c d : Line line_most} → a ≡ blank line_most → b ≡ behind a (ascii "sedgecoil: ") → c ≡ behind b (filled refused words (message refused.wrong))
      → d ≡ byte_behind c 0x0A → d ≡ behind (blank line_most) (wrong_line refused words)
  unfolding wrong_line message_by newline ascii behind
  framed e f g h =
      let said = filled refused words (message refused.wrong) in
      then-added (blank line_most) (ascii "sedgecoil: " ++ said) newline
      (then-added (blank line_most) (ascii "sedgecoil: ") said (f ∙ ap (λ (l : Line line_most). behind l (ascii "sedgecoil: ")) e) g) h

-- ---- how long it is

shown-short : (word : List ℕ) → length (shown word) ≤ 258
unfolding shown ascii
shown-short word =
    rw length-append
    (by-test (ltb 64 (length word)) (λ t. rw t (omega (arith, most))) (λ t. rw t (omega (arith, most))))
  where
    most : length (escaped_text (take 64 word)) ≤ 4 * 64
    most = text-most (take 64 word) 64 (omega (arith, length-take 64 word))

name-short : (command : Command) → length (command_name command) ≤ 8
unfolding command_name
name-short Replay = leb-true _ _ refl
name-short Snapshot = leb-true _ _ refl
name-short Geometry = leb-true _ _ refl
name-short Modeline = leb-true _ _ refl
name-short Clocks = leb-true _ _ refl
name-short Portable = leb-true _ _ refl
name-short Explain = leb-true _ _ refl
name-short Bytes = leb-true _ _ refl

named-short : (command : Option Command) → length (name_of command) ≤ 8
unfolding name_of
named-short None = omega arith
named-short (Some command) = name-short command

-- the most bytes that a byte of a message stands for
unfoldable costs : List ℕ → ℕ
costs [] = 0
costs (b ∷ bs) = cond (eqb b 0x25) 8 (cond (eqb b 0x40) 258 1) + costs bs

filled-short : (refused : Refused) (words said : List ℕ) → length (filled refused words said) ≤ costs said
unfolding filled costs piece_of
filled-short refused words [] = omega arith
filled-short refused words (b ∷ bs) =
    rw length-append
    (by-test (eqb b 0x25) (λ t. rw t (omega (arith, filled-short refused words bs, named-short refused.command)))
    (λ t. by-test (eqb b 0x40) (λ u. rw (t, u) (omega (arith, filled-short refused words bs, shown-short (word_at words refused.word))))
    (λ u. rw (t, u) (omega (arith, filled-short refused words bs)))))

costs-short : (w : Wrong) → costs (message w) ≤ 388
unfolding costs message
costs-short NoCommand = leb-true _ _ refl
costs-short UnknownCommand = leb-true _ _ refl
costs-short UnknownOption = leb-true _ _ refl
costs-short NoValue = leb-true _ _ refl
costs-short NoTwoValues = leb-true _ _ refl
costs-short NoSuchChip = leb-true _ _ refl
costs-short NoSuchEngine = leb-true _ _ refl
costs-short NotWithValue = leb-true _ _ refl
costs-short Twice = leb-true _ _ refl
costs-short WideWithOf = leb-true _ _ refl
costs-short NoFile = leb-true _ _ refl
costs-short OneFileMore = leb-true _ _ refl
costs-short EmptyName = leb-true _ _ refl
costs-short BothStandardInput = leb-true _ _ refl
costs-short TooManyWords = leb-true _ _ refl
costs-short TooLong = leb-true _ _ refl

-- the line has 400 bytes at most
pub message-short : (refused : Refused) (words : List ℕ) → length (wrong_line refused words) ≤ line_most
unfolding wrong_line message_by newline ascii
message-short refused words =
    rw length-append
    (omega (
      arith,
      length-append (ascii "sedgecoil: ") (filled refused words (message refused.wrong)),
      filled-short refused words (message refused.wrong),
      costs-short refused.wrong,
    ))

-- so none of it is dropped
pub nothing-dropped : (refused : Refused) (words : List ℕ) {l : Line line_most} → l ≡ behind (blank line_most) (wrong_line refused words) → text_of l ≡ wrong_line refused words
nothing-dropped refused words e = ap text_of e ∙ all-kept (blank line_most) (wrong_line refused words) refl (omega (arith, message-short refused words))
