-- Read byte by byte, a line gives what its words mean. Assumes nothing.
use Prim.Native.Nat.{ℕ, ◌+◌, ◌*◌, ◌%◌}
use mathlib.Core.Bool.{Bool, true, false, cond, true≢false, ◌&&◌, ◌||◌}
use mathlib.Core.Path.{◌≡◌, refl, sym, ap, ◌∙◌, subst}
use mathlib.Core.List.{List, [], ◌∷◌, ◌++◌, append_assoc, append-nil}
use native.Mathlib.Nat.{mod-eq_of_lt}
use native.Mathlib.Omega.{arith}
use borrow.Author.Tests.{eqb-true, ltb-true}
use lib.Dec.{eqb}
use lib.ListN.{length, length-append}
use Rattle.bits.proofs.Test.{by-test, and-false}
use Rattle.hex_text.specs.declared.state.HexText.{HexText}
use Rattle.hex_text.specs.declared.state.Stand.{Stand}
use Rattle.hex_text.specs.declared.state.Stand.TheVariants.{Between, Digit, Byte, ByteReturn, Return, Comment, Bad}
use Rattle.hex_text.specs.Text.{digit_value, digit, blank, between, without_return, before_hash, word_before, words_from, good, byte_of}
use Rattle.hex_text.specs.Text.{Meaning, nothing, bad_at, with_bytes, meant}
use Rattle.hex_text.specs.Machine.{largest, held, moved_by, standing, separated_by, stepped_by, stepped, ends_word, given_by, line_over, ended_by}
use Rattle.hex_text.specs.Machine.{end_given, ended, after, told}

-- the text at a line and a column
unfoldable pub at : ℕ → ℕ → Stand → HexText
at line column stand = record { stand = stand; line = held line; column = held column }

-- how a text that means something ends in a line
unfoldable pub end_of : ℕ → Meaning → HexText
end_of line m = cond m.bad (at m.line m.column Bad) (record { stand = Between; line = held line; column = 1 })

-- bytes, read from a state on and ended, give what a meaning says
pub record Gives (s : HexText) (text : List ℕ) (line : ℕ) (m : Meaning) : Type 0 where
  pub bytes : told s text ++ end_given (after s text).stand ≡ m.bytes
  pub state : ended (after s text) ≡ end_of line m

-- a byte, and then the others
step_gives : (s next : HexText) (b : ℕ) (text bytes : List ℕ) (line : ℕ) (m more : Meaning) → given_by s.stand b ≡ bytes → stepped s b ≡ next
    → m ≡ with_bytes bytes more → Gives next text line more → Gives s (b ∷ text) line m
unfolding told after with_bytes end_of
step_gives s next b text bytes line m more g e h r =
    subst (λ (x : Meaning). Gives s (b ∷ text) line x) (sym h)
    (record {
      bytes =
          ap (λ (xs : List ℕ). xs ++ told (stepped s b) text ++ end_given (after (stepped s b) text).stand) g
          ∙ ap (λ (t : HexText). bytes ++ told t text ++ end_given (after t text).stand) e
          ∙ append_assoc bytes (told next text) (end_given (after next text).stand)
          ∙ ap (λ (xs : List ℕ). bytes ++ xs) r.bytes;
      state = ap (λ (t : HexText). ended (after t text)) e ∙ r.state;
    })

-- ---- what is bad stays so

pub bad-gives : (line column last : ℕ) (text : List ℕ) → Gives (at line column Bad) text last (bad_at line column)
unfolding at told after end_given ended ended_by end_of bad_at standing stepped stepped_by given_by with_bytes
bad-gives line column last [] = record { bytes = refl; state = refl }
bad-gives line column last (b ∷ text) =
    step_gives (at line column Bad) (at line column Bad) b text [] last (bad_at line column) (bad_at line column) refl refl refl
    (bad-gives line column last text)

-- ---- words that no bytes more make good

module _ (line k : ℕ) where
  doomed : (x : ℕ) (word rest : List ℕ) (column : ℕ) → ((more : List ℕ) → good (x ∷ (word ++ more)) ≡ false) → column ≡ k + length (x ∷ word)
      → meant (words_from line column (x ∷ word) rest) ≡ bad_at line k
  unfolding words_from word_before meant
  doomed x word [] column never e =
      rw (sym (ap (λ (xs : List ℕ). good (x ∷ xs)) (append-nil word)) ∙ never []) (ap (bad_at line) (omega (arith, e)))
  doomed x word (b ∷ rest) column never e =
      by-test (blank b)
      (λ h. rw (h, sym (ap (λ (xs : List ℕ). good (x ∷ xs)) (append-nil word)) ∙ never []) (ap (bad_at line) (omega (arith, e))))
      (λ h. rw h
      (doomed x (word ++ b ∷ []) rest (column + 1)
      (λ more. ap (λ (xs : List ℕ). good (x ∷ xs)) (append_assoc word (b ∷ []) more) ∙ never (b ∷ more))
      (omega (arith, e, length-append word (b ∷ [])))))

never-one : (x : ℕ) → digit x ≡ false → (more : List ℕ) → good (x ∷ more) ≡ false
unfolding good
never-one x e [] = refl
never-one x e (y ∷ []) = rw e
never-one x e (y ∷ z ∷ more) = refl

never-two : (a x : ℕ) → digit x ≡ false → (more : List ℕ) → good (a ∷ x ∷ more) ≡ false
unfolding good
never-two a x e [] = rw e (and-false (digit a))
never-two a x e (y ∷ more) = refl

never-three : (a b x : ℕ) (more : List ℕ) → good (a ∷ b ∷ x ∷ more) ≡ false
unfolding good
never-three a b x more = refl

-- ---- where the text stands in a line

-- the part of a word that is read: none of it, one digit, two
pub data Part : Type 0 where
  none : Part
  one : ℕ → Part
  two : ℕ → ℕ → Part

unfoldable pub bytes_in : Part → List ℕ
bytes_in none = []
bytes_in (one a) = a ∷ []
bytes_in (two a b) = a ∷ b ∷ []

unfoldable pub stand_of : Part → Stand
stand_of none = Between
stand_of (one a) = Digit (digit_value a)
stand_of (two a b) = Byte (byte_of (a ∷ b ∷ []))

unfoldable pub digits : Part → Bool
digits none = true
digits (one a) = digit a
digits (two a b) = digit a && digit b

-- a blank is no digit
blank-no-digit : (b : ℕ) → blank b ≡ true → digit b ≡ false
unfolding blank digit digit_value between
blank-no-digit b h =
    by-test (eqb b 0x20)
    (λ e. rw (eqb-true b 0x20 e))
    (λ e. rw (eqb-true b 0x09 (sym (ap (λ (t : Bool). t || eqb b 0x09) e) ∙ h)))

digit-no-blank : (b : ℕ) → digit b ≡ true → blank b ≡ false
digit-no-blank b h = by-test (blank b) (λ e. absurd (true≢false (sym h ∙ blank-no-digit b e))) (λ e. e)

pub held_moved : (k by : ℕ) → moved_by (held k) by ≡ held (k + by)
unfolding moved_by held largest
held_moved k by = omega arith

both-digits : (a b : ℕ) → digit a ≡ true → digit b ≡ true → (digit a && digit b) ≡ true
both-digits a b e h = rw (e, h)

second-value : (a b : ℕ) → digit a ≡ true → digit_value a % 16 * 16 + digit_value b ≡ byte_of (a ∷ b ∷ [])
unfolding digit byte_of
second-value a b e = omega (arith, mod-eq_of_lt (ltb-true (digit_value a) 16 e))

-- ---- one byte of a line that is no LF, no `#`, and no CR

module _ (line k column b : ℕ) (text rest : List ℕ) (not-feed : eqb b 0x0A ≡ false) (not-hash : eqb b 0x23 ≡ false) (not-return : eqb b 0x0D ≡ false) where
  -- the bytes after it, from wherever the text stands then
  abbrev Later : Type 0
  Later =
      (part : Part) (k' column' : ℕ) → digits part ≡ true → column' ≡ k' + length (bytes_in part)
      → Gives (at line k' (stand_of part)) text line (meant (words_from line column' (bytes_in part) rest))

  spoils : (s : HexText) (m : Meaning) → given_by s.stand b ≡ [] → stepped s b ≡ at line k Bad → m ≡ bad_at line k → Gives s (b ∷ text) line m
  unfolding with_bytes
  spoils s m g e h = step_gives s (at line k Bad) b text [] line m (bad_at line k) g e h (bad-gives line k line text)

  after_none : Later → column ≡ k + length (bytes_in none) → Gives (at line k (stand_of none)) (b ∷ text) line (meant (words_from line column [] (b ∷ rest)))
  unfolding at stand_of bytes_in digits stepped stepped_by given_by separated_by standing words_from word_before with_bytes
  after_none later e =
      by-test (digit b)
      (λ d. step_gives _ (at line k (stand_of (one b))) b text [] line _ (meant (words_from line (column + 1) (b ∷ []) rest)) refl (rw d)
      (rw (digit-no-blank b d)) (later (one b) k (column + 1) d (omega (arith, e))))
      (λ d. by-test (blank b)
      (λ h. step_gives _ (at line (k + 1) Between) b text [] line _ (meant (words_from line (column + 1) [] rest)) refl (rw (d, h, held_moved k 1))
      (rw h) (later none (k + 1) (column + 1) refl (omega (arith, e))))
      (λ h. spoils _ _ refl (rw (d, h, not-feed, not-hash, not-return))
      (rw h (doomed line k b [] rest (column + 1) (never-one b d) (omega (arith, e))))))

  after_one : (a : ℕ) → digit a ≡ true → Later → column ≡ k + length (bytes_in (one a))
      → Gives (at line k (stand_of (one a))) (b ∷ text) line (meant (words_from line column (a ∷ []) (b ∷ rest)))
  unfolding at stand_of bytes_in digits stepped stepped_by given_by standing words_from word_before with_bytes meant good
  after_one a e later c =
      by-test (digit b)
      (λ d. step_gives _ (at line k (stand_of (two a b))) b text [] line _ (meant (words_from line (column + 1) (a ∷ b ∷ []) rest)) refl
      (rw d (ap (λ (v : ℕ). at line k (Byte v)) (second-value a b e)))
      (rw (digit-no-blank b d)) (later (two a b) k (column + 1) (both-digits a b e d) (omega (arith, c))))
      (λ d. spoils _ _ refl (rw d)
      (by-test (blank b)
      (λ h. rw h (ap (bad_at line) (omega (arith, c))))
      (λ h. rw h (doomed line k a (b ∷ []) rest (column + 1) (never-two a b d) (omega (arith, c))))))

  after_two : (a a' : ℕ) → (digit a && digit a') ≡ true → Later → column ≡ k + length (bytes_in (two a a'))
      → Gives (at line k (stand_of (two a a'))) (b ∷ text) line (meant (words_from line column (a ∷ a' ∷ []) (b ∷ rest)))
  unfolding at stand_of bytes_in digits stepped stepped_by given_by ends_word separated_by standing words_from word_before with_bytes meant good
  after_two a a' e later c =
      by-test (blank b)
      (λ h. step_gives _ (at line (k + 3) Between) b text (byte_of (a ∷ a' ∷ []) ∷ []) line _ (meant (words_from line (column + 1) [] rest)) (rw h)
      (rw (h, held_moved k 3)) (rw (h, e)) (later none (k + 3) (column + 1) refl (omega (arith, c))))
      (λ h. spoils _ _ (rw (h, not-feed, not-hash)) (rw (h, not-feed, not-hash, not-return))
      (rw h (doomed line k a (a' ∷ b ∷ []) rest (column + 1) (never-three a a' b) (omega (arith, c)))))

  after-part : (part : Part) → digits part ≡ true → Later → column ≡ k + length (bytes_in part)
      → Gives (at line k (stand_of part)) (b ∷ text) line (meant (words_from line column (bytes_in part) (b ∷ rest)))
  unfolding digits bytes_in
  after-part none e later c = after_none later c
  after-part (one a) e later c = after_one a e later c
  after-part (two a a') e later c = after_two a a' e later c

-- ---- the other bytes of a line

-- bytes without LF
pub data NoFeed : List ℕ → Type 0 where
  empty : NoFeed []
  more : {b : ℕ} {text : List ℕ} → eqb b 0x0A ≡ false → NoFeed text → NoFeed (b ∷ text)

comment-gives : (line k : ℕ) (text : List ℕ) → NoFeed text → Gives (at line k Comment) text line nothing
unfolding at told after end_given ended ended_by end_of nothing line_over standing stepped stepped_by given_by with_bytes
comment-gives line k [] empty = record { bytes = refl; state = refl }
comment-gives line k (b ∷ text) (more h rest) =
    step_gives (at line k Comment) (at line k Comment) b text [] line nothing nothing refl (rw h) refl (comment-gives line k text rest)

module _ (line k column : ℕ) where
  -- the end of a line
  end-gives : (part : Part) → digits part ≡ true → column ≡ k + length (bytes_in part)
      → Gives (at line k (stand_of part)) [] line (meant (word_before line column (bytes_in part)))
  unfolding at told after end_given ended ended_by end_of bad_at line_over standing stand_of bytes_in digits word_before with_bytes meant nothing good
  end-gives none e c = record { bytes = refl; state = refl }
  end-gives (one a) e c = record { bytes = refl; state = ap (λ (n : ℕ). at line n Bad) (omega (arith, c)) }
  end-gives (two a b) e c = rw e (record { bytes = refl; state = refl })

  -- a comment
  hash-gives : (part : Part) (text : List ℕ) → digits part ≡ true → column ≡ k + length (bytes_in part) → NoFeed text
      → Gives (at line k (stand_of part)) (0x23 ∷ text) line (meant (word_before line column (bytes_in part)))
  unfolding at stand_of bytes_in digits stepped stepped_by given_by ends_word separated_by standing word_before with_bytes meant good nothing
      digit digit_value between blank
  hash-gives none text e c quiet =
      step_gives (at line k Between) (at line k Comment) 0x23 text [] line nothing nothing refl refl refl (comment-gives line k text quiet)
  hash-gives (one a) text e c quiet =
      step_gives _ (at line k Bad) 0x23 text [] line _ (bad_at line k) refl refl (ap (bad_at line) (omega (arith, c))) (bad-gives line k line text)
  hash-gives (two a b) text e c quiet =
      step_gives _ (at line k Comment) 0x23 text (byte_of (a ∷ b ∷ []) ∷ []) line _ nothing refl refl (rw e) (comment-gives line k text quiet)

  -- a CR at the end of a line
  return-gives : (part : Part) → digits part ≡ true → column ≡ k + length (bytes_in part)
      → Gives (at line k (stand_of part)) (0x0D ∷ []) line (meant (word_before line column (bytes_in part)))
  unfolding at told after end_given ended ended_by end_of bad_at line_over standing stand_of bytes_in digits word_before with_bytes meant nothing good
      stepped stepped_by given_by ends_word separated_by digit digit_value between blank
  return-gives none e c = record { bytes = refl; state = refl }
  return-gives (one a) e c = record { bytes = refl; state = ap (λ (n : ℕ). at line n Bad) (omega (arith, c)) }
  return-gives (two a b) e c = rw e (record { bytes = refl; state = refl })

  -- a CR before another byte of a line
  stray-gives : (part : Part) (d : ℕ) (text rest : List ℕ) → digits part ≡ true → column ≡ k + length (bytes_in part) → eqb d 0x0A ≡ false
      → Gives (at line k (stand_of part)) (0x0D ∷ d ∷ text) line (meant (words_from line column (bytes_in part) (0x0D ∷ rest)))
  unfolding at stand_of bytes_in digits stepped stepped_by given_by ends_word separated_by standing words_from with_bytes digit digit_value between blank
  stray-gives none d text rest e c h =
      step_gives _ (at line k Return) 0x0D (d ∷ text) [] line _ (bad_at line k) refl refl
      (doomed line k 0x0D [] rest (column + 1) (never-one 0x0D refl) (omega (arith, c)))
      (step_gives _ (at line k Bad) d text [] line _ (bad_at line k) refl (rw h) refl (bad-gives line k line text))
  stray-gives (one a) d text rest e c h =
      step_gives _ (at line k Bad) 0x0D (d ∷ text) [] line _ (bad_at line k) refl refl
      (doomed line k a (0x0D ∷ []) rest (column + 1) (never-two a 0x0D refl) (omega (arith, c)))
      (bad-gives line k line (d ∷ text))
  stray-gives (two a b) d text rest e c h =
      step_gives _ (at line k (ByteReturn (byte_of (a ∷ b ∷ [])))) 0x0D (d ∷ text) [] line _ (bad_at line k) refl refl
      (doomed line k a (b ∷ 0x0D ∷ []) rest (column + 1) (never-three a b 0x0D) (omega (arith, c)))
      (step_gives _ (at line k Bad) d text [] line _ (bad_at line k) (rw h) (rw h) refl (bad-gives line k line text))

-- ---- a line

pub line_gives : (line k column : ℕ) (part : Part) (text : List ℕ) → digits part ≡ true → column ≡ k + length (bytes_in part) → NoFeed text
    → Gives (at line k (stand_of part)) text line (meant (words_from line column (bytes_in part) (before_hash (without_return text))))
unfolding without_return before_hash words_from
line_gives line k column part [] e c empty = end-gives line k column part e c
line_gives line k column part (b ∷ []) e c (more h quiet) =
    by-test (eqb b 0x0D)
    (λ r. rw (eqb-true b 0x0D r) (return-gives line k column part e c))
    (λ r. rw r
    (by-test (eqb b 0x23)
    (λ s. rw (eqb-true b 0x23 s) (hash-gives line k column part [] e c empty))
    (λ s. rw s
    (after-part line k column b [] [] h s r part e (λ part' k' column' e' c'. line_gives line k' column' part' [] e' c' empty) c))))
line_gives line k column part (b ∷ d ∷ text) e c (more h quiet) =
    by-test (eqb b 0x23)
    (λ s. rw (eqb-true b 0x23 s) (hash-gives line k column part (d ∷ text) e c quiet))
    (λ s. rw s
    (by-test (eqb b 0x0D)
    (λ r. rw (eqb-true b 0x0D r) (stray-gives line k column part d text (before_hash (without_return (d ∷ text))) e c (first quiet)))
    (λ r. after-part line k column b (d ∷ text) (before_hash (without_return (d ∷ text))) h s r part e
    (λ part' k' column' e' c'. line_gives line k' column' part' (d ∷ text) e' c' quiet) c)))
  where
    first : NoFeed (d ∷ text) → eqb d 0x0A ≡ false
    first (more q rest) = q
