-- No line drops a byte: with every token at its longest it ends before its last place. Assumes nothing.
use Prim.Native.Nat.{ℕ, zero, suc, ◌+◌, ◌-◌, ◌/◌, ◌%◌, ◌^◌, ◌≤◌, ◌<◌}
use mathlib.Core.Bool.{Bool, true, false, cond, not, ◌&&◌, ◌||◌}
use mathlib.Core.List.{List, [], ◌∷◌}
use Rattle.std.specs.Prelude.{None, Option, Some}
use mathlib.Core.Path.{◌≡◌, refl, ap}
use native.Mathlib.Omega.{arith}
use borrow.Author.Tests.{leb-true, ltb-false, ltb-true}
use lib.Dec.{T, eqb, leb, leb→le, ltb}
use lib.ListN.{get_or, length, length-append, length-replicate, replicate, get_or-eq_default}
use lib.Bits.{bit_xor}
use Rattle.bits.specs.Every.{every_below}
use Rattle.bits.specs.Store.{bit}
use Rattle.bits.proofs.Bounded.{read_below}
use Rattle.bits.proofs.Test.{below, by-test}
use Rattle.file.specs.declared.answer.Answer.{Answer}
use Rattle.file.specs.declared.answer.Answer.TheVariants.{Done, NoRegister, Malformed, SpaceOff, NotHeld, OtherHalf, WrongWidth, ReadOnly, Locked, PaletteDown, OutOfRange, ShortBuffer, NotSound, NotBeforeRed, OtherChip, OtherDirection, InsideWider}
use Rattle.file.specs.declared.palette.Pointer.{Pointer}
use Rattle.file.specs.declared.registers.File.{File}
use Rattle.file.specs.Answers.{code_of}
use Rattle.file.specs.File.{register}
use Rattle.file.specs.Names.{B0, CR1A, MISC, PCI04, capture_ystart}
use Rattle.file.specs.Readers.{ascii, name_table}
use Rattle.file.specs.Registers.{registers}
use Rattle.file.specs.Sound.{sound}
use Rattle.file.specs.State.{last_line}
use Rattle.file.proofs.Soundness.{line-sound}
use Rattle.file.proofs.NameBytes.{name-short}
use Rattle.places.specs.declared.place.Place.{Place}
use Rattle.places.specs.declared.place.Place.TheVariants.{Register, Attribute, Fixed, DeviceId, ToggleState, AttributeIndex, PaletteState, VPortState, ReadAddress, WriteAddress, PixelData, ToggleReset, Unnamed, UnnamedAttribute, CurrentLine, Passing}
use Rattle.places.specs.Places.{pci00}
use Rattle.access.specs.declared.record.Record.{Record}
use Rattle.access.specs.declared.record.Item.{Item}
use Rattle.access.specs.Access.{access_item, record_in}
use Rattle.access.specs.Checks.{carries, is_passing, is_port, is_write}
use Rattle.timing.specs.Table.{table, wide}
use Rattle.timing.specs.Timing.{numbers_of, read_timing}
use Rattle.timing.proofs.Computed.{table-bounded}
use Rattle.trace.proofs.RunMore.{item-sound}
use Rattle.text.specs.Text.{decimal}
use Rattle.text.proofs.Places.{most-places}
use Rattle.text.proofs.Spelled.{digits-length}
use Rattle.explaining.specs.declared.explain.Case.{Case}
use Rattle.explaining.specs.declared.token.Token.{Token}
use Rattle.explaining.specs.Explained.{beam_line, bit_digits, byte_token, case_of, changed, colour_word, entry_line, first_line, head_line, line_at, marks_line, marks_words, number_line, part_line, pointer_line, pointer_words, register_part, toggle_line, toggle_words}
use Rattle.text.specs.Fixed.{behind, byte_behind}
use Rattle.explaining.specs.Lines.{Line, blank, columned, decimal_token, gap, hex_of, hex_token, line_most, name_token, no_words, nothing, phrase, say, token_text, tokens_text, told, up_to_dot, words_token}
use Rattle.explaining.specs.Moves.{number_label, number_names, number_rows, numbers_in}
use Rattle.explaining.specs.Words.{access_why, access_words, answer_words, bytes_word, code_names, code_rows, code_word, code_words, comma_word, direction_words, done_words, down_words, equals_word, fixed_words, found_words, half_words, has_value, has_width, inside_words, is_odd, item_words, locked_words, looked_words, malformed_word, malformed_words, off_words, passing_why, passing_words, place_words, read_address_word, record_words, short, space_word, value_digits, value_token, way_word, width_token, width_words, write_address_word}
use Rattle.explaining.proofs.Unmoved.{number_in}

-- ---- how far a line goes

byte-end : (l : Line) (b : ℕ) → (byte_behind l b).end ≤ l.end + 1
unfolding byte_behind
byte-end l b = by-test (ltb l.end line_most) (λ e. rw e (omega arith)) (λ e. rw e (omega arith))

behind-end : (l : Line) (text : List ℕ) → (behind l text).end ≤ l.end + length text
unfolding behind
behind-end l [] = omega arith
behind-end l (b ∷ bs) = omega (arith, byte-end l b, behind-end (byte_behind l b) bs)

-- a line that ends before its last place has every byte of the text behind it
pub all-kept : (l : Line) (text : List ℕ) → (behind l text).end < line_most → (behind l text).end ≡ l.end + length text
unfolding behind byte_behind
all-kept l [] h = omega arith
all-kept l (b ∷ bs) h =
    let rest = all-kept (byte_behind l b) bs h in
    by-test (ltb l.end line_most)
    (λ e. let one : (byte_behind l b).end ≡ l.end + 1 = rw e refl in omega (arith, rest, one))
    (λ e. let none : (byte_behind l b).end ≡ l.end = rw e refl in absurd (omega (arith, rest, none, h, ltb-false l.end line_most e)))

-- ---- how long tokens are

pub record Within (t : Token) (n : ℕ) : Type 0 where
  pub most : length (token_text t) ≤ n

pub record Total (ts : List Token) (n : ℕ) : Type 0 where
  pub most : length (tokens_text ts) ≤ n

-- words, by computation
pub spoken : {t : Token} (n : ℕ) → leb (length (token_text t)) n ≡ true → Within t n
spoken {t} n e = record { most = leb-true (length (token_text t)) n e }

-- no more of them
pub ended : {ts : List Token} → leb (length (tokens_text ts)) 0 ≡ true → Total ts 0
ended {ts} e = record { most = leb-true (length (tokens_text ts)) 0 e }

pub more : {t : Token} {ts : List Token} {n m : ℕ} → Within t n → Total ts m → Total (t ∷ ts) (n + m)
unfolding tokens_text
more {t} {ts} a b = record { most = omega (arith, length-append (token_text t) (tokens_text ts), a.most, b.most) }

pub either : {x y : Token} {n : ℕ} (b : Bool) → Within x n → Within y n → Within (cond b x y) n
either true a b = a
either false a b = b

pub eithers : {xs ys : List Token} {n : ℕ} (b : Bool) → Total xs n → Total ys n → Total (cond b xs ys) n
eithers true a b = a
eithers false a b = b

-- fewer are within more
pub up : {ts : List Token} {n : ℕ} (m : ℕ) → n ≤ m → Total ts n → Total ts m
up m h a = record { most = omega (arith, h, a.most) }

digits-hex : (digits n : ℕ) → length (hex_of digits n) ≡ digits
unfolding hex_of
digits-hex zero n = refl
digits-hex (suc k) n = ap suc (digits-hex k n)

pub hex-within : (most digits n : ℕ) → digits < most → Within (hex_token digits n) most
unfolding token_text ascii
hex-within most digits n h = record { most = rw length-append (omega (arith, digits-hex digits n, h)) }

pub decimal-within : (j n : ℕ) → n < 10 ^ suc j → Within (decimal_token n) (suc j)
unfolding token_text decimal
decimal-within j n h = record { most = rw digits-length (most-places j n n h) }

pub name-within : (n : ℕ) → Within (name_token n) 10
unfolding token_text
name-within n = record { most = name-short n }

one_of : {m n : ℕ} (most : ℕ) (b : Bool) → m < most → n < most → cond b m n < most
one_of most true a b = a
one_of most false a b = b

short-within : (n : ℕ) → Within (short n) 5
unfolding short
short-within n = hex-within 5 _ n (one_of {m = 2} {n = cond (ltb n 0x1000) 3 4} 5 (ltb n 0x100) (omega arith) (one_of {m = 3} {n = 4} 5 (ltb n 0x1000) (omega arith) (omega arith)))

-- ---- the record

module _ (r : Record) where
  access-short : r.width < 256 → Total (access_words r) 41
  unfolding access_words space_word way_word equals_word value_token comma_word width_token bytes_word tokens_text token_text ascii up_to_dot
  access-short h =
      more (either (eqb (r.kind / 2) 0) (spoken 7 refl) (either (eqb (r.kind / 2) 1) (spoken 7 refl) (spoken 7 refl)))
      (more (either (is_write r) (spoken 6 refl) (spoken 6 refl))
      (more (short-within r.address)
      (more (either (has_value r) (spoken 3 refl) (spoken 3 refl))
      (more (either (has_value r) (hex-within 9 (value_digits r) r.value few) (spoken 9 refl))
      (more (either (has_width r) (spoken 2 refl) (spoken 2 refl))
      (more (either (has_width r) (decimal-within 2 r.width (omega (arith, h))) (spoken 3 refl))
      (more (either (has_width r) (either (eqb r.width 1) (spoken 6 refl) (spoken 6 refl)) (spoken 6 refl)) (ended refl))))))))
    where
      few : value_digits r < 9
      few =
          one_of {m = 2} {n = cond (ltb r.value 0x10000) 4 8} 9 (eqb r.width 1 && ltb r.value 0x100) (omega arith)
          (one_of {m = 4} {n = 8} 9 (ltb r.value 0x10000) (omega arith) (omega arith))

  passing-short : r.width < 256 → r.value < 2 ^ 32 → Total (passing_words r) 41
  unfolding passing_words tokens_text token_text ascii up_to_dot
  passing-short width value =
      more (spoken 11 refl)
      (more (decimal-within 9 r.value (omega (arith, value)))
      (more (either (is_odd r) (spoken 8 refl) (spoken 8 refl))
      (more (either (is_odd r) (decimal-within 2 r.width (omega (arith, width))) (spoken 3 refl))
      (more (either (is_odd r) (spoken 4 refl) (spoken 4 refl))
      (more (either (is_odd r) (short-within r.address) (spoken 5 refl)) (ended refl))))))

  record-short : r.kind < 256 → r.width < 256 → r.value < 2 ^ 32 → Total (record_words r) 41
  unfolding record_words tokens_text token_text ascii up_to_dot
  record-short kind width value =
      eithers (ltb r.kind 6) (access-short width)
      (eithers (is_passing r) (passing-short width value)
      (up 41 (omega arith) (more (spoken 5 refl) (more (decimal-within 2 r.kind (omega (arith, kind))) (ended refl)))))

item-short : (r : Record) (whole : Bool) → r.kind < 256 → r.width < 256 → r.value < 2 ^ 32 → Total (item_words whole r) 41
unfolding item_words tokens_text token_text ascii up_to_dot
item-short r whole kind width value = eithers whole (record-short r kind width value) (up 41 (omega arith) (more (spoken 8 refl) (ended refl)))

-- ---- the place

module _ (r : Record) where
  place_short : (place : Place) → Total (place_words r place) 19
  unfolding place_words read_address_word write_address_word fixed_words tokens_text token_text ascii up_to_dot
  place_short (Register number) = up 19 (omega arith) (more (name-within number) (ended refl))
  place_short (Attribute number) = up 19 (omega arith) (more (name-within number) (more (spoken 8 refl) (ended refl)))
  place_short (Fixed value) = up 19 (omega arith) (more (either (eqb value pci00) (spoken 5 refl) (spoken 5 refl)) (ended refl))
  place_short DeviceId = up 19 (omega arith) (more (spoken 5 refl) (ended refl))
  place_short ToggleState = up 19 (omega arith) (more (spoken 4 refl) (ended refl))
  place_short AttributeIndex = up 19 (omega arith) (more (spoken 4 refl) (ended refl))
  place_short PaletteState = up 19 (omega arith) (more (name-within B0) (ended refl))
  place_short VPortState = up 19 (omega arith) (more (name-within capture_ystart) (ended refl))
  place_short ReadAddress = up 19 (omega arith) (more (either (is_write r) (spoken 12 refl) (spoken 12 refl)) (ended refl))
  place_short WriteAddress = up 19 (omega arith) (more (either (is_write r) (spoken 15 refl) (spoken 15 refl)) (ended refl))
  place_short PixelData = up 19 (omega arith) (more (spoken 10 refl) (ended refl))
  place_short ToggleReset = up 19 (omega arith) (more (spoken 13 refl) (ended refl))
  place_short Unnamed = up 19 (omega arith) (more (spoken 11 refl) (ended refl))
  place_short UnnamedAttribute = more (spoken 19 refl) (ended refl)
  place_short CurrentLine = up 19 (omega arith) (more (spoken 4 refl) (ended refl))
  place_short Passing = up 19 (omega arith) (more (spoken 4 refl) (ended refl))

  found-short : (found : Option Place) → Total (found_words r found) 19
  unfolding found_words tokens_text token_text ascii up_to_dot
  found-short None = up 19 (omega arith) (more (spoken 12 refl) (ended refl))
  found-short (Some place) = place_short place

  looked-short : (whole : Bool) (code : ℕ) (found : Option Place) → Total (looked_words whole code r found) 19
  unfolding looked_words tokens_text token_text ascii up_to_dot
  looked-short whole code found =
      eithers (not whole || eqb code 12) (up 19 (omega arith) (more (spoken 13 refl) (ended refl)))
      (eithers (eqb code 16 || eqb code 17) (up 19 (omega arith) (more (spoken 14 refl) (ended refl))) (found-short found))

-- ---- the answer

pub one-decimal : (j n : ℕ) → n < 10 ^ suc j → Total (phrase (decimal_token n ∷ [])) (suc j + 0)
unfolding tokens_text token_text up_to_dot
one-decimal j n h = more (decimal-within j n h) (ended refl)

code-short : (a : Answer) → Total (phrase (decimal_token (code_of a) ∷ [])) 2
unfolding code_of
code-short (Done value) = one-decimal 1 0 (omega arith)
code-short NoRegister = one-decimal 1 1 (omega arith)
code-short Malformed = one-decimal 1 2 (omega arith)
code-short SpaceOff = one-decimal 1 3 (omega arith)
code-short NotHeld = one-decimal 1 4 (omega arith)
code-short OtherHalf = one-decimal 1 5 (omega arith)
code-short WrongWidth = one-decimal 1 6 (omega arith)
code-short ReadOnly = one-decimal 1 7 (omega arith)
code-short Locked = one-decimal 1 8 (omega arith)
code-short PaletteDown = one-decimal 1 9 (omega arith)
code-short OutOfRange = one-decimal 1 10 (omega arith)
code-short ShortBuffer = one-decimal 1 11 (omega arith)
code-short NotSound = one-decimal 1 12 (omega arith)
code-short NotBeforeRed = one-decimal 1 13 (omega arith)
code-short OtherChip = one-decimal 1 15 (omega arith)
code-short OtherDirection = one-decimal 1 16 (omega arith)
code-short InsideWider = one-decimal 1 17 (omega arith)

-- three registers' names
pub lock-short : Total locked_words 36
unfolding locked_words name_table registers tokens_text token_text ascii up_to_dot
lock-short =
    up 36 (omega arith) (more (spoken 4 refl) (more (spoken 10 refl) (more (spoken 3 refl) (more (spoken 4 refl) (more (spoken 3 refl) (ended refl))))))

module _ (f : File) (r : Record) (whole : Bool) where
  answer-short : (a : Answer) → Total (answer_words f r whole a) 36
  unfolding answer_words code_words code_word code_rows code_names locked_words done_words malformed_words malformed_word passing_why access_why off_words half_words width_words down_words direction_words inside_words tokens_text token_text ascii up_to_dot
  answer-short (Done value) =
      eithers (carries r) (up 36 (omega arith) (more (spoken 4 refl) (ended refl)))
      (up 36 (omega arith) (more (spoken 5 refl) (more (hex-within 5 _ value (one_of {m = 2} {n = 4} 5 (eqb r.width 1) (omega arith) (omega arith))) (ended refl))))
  answer-short NoRegister = up 36 (omega arith) (more (spoken 24 refl) (ended refl))
  answer-short Malformed =
      up 36 (omega arith)
      (more
      (either whole
      (either (ltb 6 r.kind) (spoken 24 refl)
      (either (is_passing r) (either (not (eqb r.width 2)) (spoken 24 refl) (either (not (eqb r.address 0)) (spoken 24 refl) (spoken 24 refl)))
      (either (eqb r.width 1 || eqb r.width 2) (either (is_write r) (spoken 24 refl) (spoken 24 refl)) (spoken 24 refl))))
      (spoken 24 refl))
      (ended refl))
  answer-short SpaceOff = up 36 (omega arith) (more (name-within PCI04) (more (either (is_port r) (spoken 16 refl) (spoken 16 refl)) (ended refl)))
  answer-short NotHeld = up 36 (omega arith) (more (spoken 24 refl) (ended refl))
  answer-short OtherHalf =
      up 36 (omega arith) (more (name-within MISC) (more (either (eqb (bit 0 (register f MISC)) 1) (spoken 12 refl) (spoken 12 refl)) (more (short-within (bit_xor r.address 0x60)) (ended refl))))
  answer-short WrongWidth = up 36 (omega arith) (more (either (eqb r.width 1) (spoken 24 refl) (spoken 24 refl)) (ended refl))
  answer-short ReadOnly = up 36 (omega arith) (more (spoken 24 refl) (ended refl))
  answer-short Locked = lock-short
  answer-short PaletteDown =
      eithers (eqb (bit 7 (register f B0)) 1) (up 36 (omega arith) (more (name-within B0) (more (spoken 24 refl) (ended refl))))
      (up 36 (omega arith) (more (name-within CR1A) (more (either (eqb (bit 3 (register f CR1A)) 1) (spoken 24 refl) (spoken 24 refl)) (ended refl))))
  answer-short OutOfRange = up 36 (omega arith) (more (spoken 0 refl) (ended refl))
  answer-short ShortBuffer = up 36 (omega arith) (more (spoken 0 refl) (ended refl))
  answer-short NotSound = up 36 (omega arith) (more (spoken 24 refl) (ended refl))
  answer-short NotBeforeRed = up 36 (omega arith) (more (spoken 0 refl) (ended refl))
  answer-short OtherChip = up 36 (omega arith) (more (spoken 0 refl) (ended refl))
  answer-short OtherDirection = up 36 (omega arith) (more (either (is_write r) (spoken 24 refl) (spoken 24 refl)) (ended refl))
  answer-short InsideWider = up 36 (omega arith) (more (spoken 24 refl) (more (short-within (r.address - 1)) (ended refl)))

-- ---- the lines

pub record Ends (l : Line) (n : ℕ) : Type 0 where
  pub most : l.end ≤ n

pub nothing_yet : Ends blank 0
nothing_yet = record { most = omega arith }

pub ends-up : {l : Line} {n : ℕ} (m : ℕ) → n ≤ m → Ends l n → Ends l m
ends-up m h a = record { most = omega (arith, h, a.most) }

pub ends-told : {l : Line} {ts : List Token} {m n : ℕ} → Ends l m → Total ts n → Ends (told l ts) (m + n)
ends-told {l} {ts} a b = record { most = omega (arith, behind-end l (tokens_text ts), a.most, b.most) }

gap-end : (end column m : ℕ) → end ≤ m → column ≤ m + 1 → end + gap end column ≤ m + 1
gap-end end column m h c =
    by-test (ltb end column) (λ e. rw e (omega (arith, ltb-true end column e, c))) (λ e. rw e (omega (arith, h)))

pub ends-column : {l : Line} {m : ℕ} (column : ℕ) → column ≤ m + 1 → Ends l m → Ends (columned l column) (m + 1)
ends-column {l} {m} column c a =
    let spaces : List ℕ = replicate (gap l.end column) 0x20 in
    record { most = omega (arith, behind-end l spaces, length-replicate {A = ℕ} (gap l.end column) 0x20, gap-end l.end column m a.most c) }

arrow : Total (phrase (say " -> " ∷ [])) 4
unfolding tokens_text token_text ascii up_to_dot
arrow = more (spoken 4 refl) (ended refl)

not-moved : Total (phrase (say ", not moved" ∷ [])) 11
unfolding tokens_text token_text ascii up_to_dot
not-moved = more (spoken 11 refl) (ended refl)

no_word : Total (phrase (nothing ∷ [])) 0
unfolding tokens_text token_text ascii up_to_dot
no_word = more (spoken 0 refl) (ended refl)

pub ends-changed : {l : Line} {before after : List Token} {m n : ℕ} (k : ℕ) (moved : Bool) → 11 ≤ k → 4 + n ≤ k → Ends l m → Total before n → Total after n
    → Ends (changed l before after moved) (m + n + k)
unfolding changed
ends-changed {m = m} {n = n} k true a b l before after =
    ends-up (m + n + k) (omega (arith, b)) (ends-told (ends-told (ends-told l before) arrow) after)
ends-changed {m = m} {n = n} k false a b l before after =
    ends-up (m + n + k) (omega (arith, a)) (ends-told (ends-told (ends-told l before) not-moved) no_word)

-- the numbers of a case fit the types that code keeps them in
pub record Fitting (c : Case) : Type 0 where
  pub number : c.number < 2 ^ 64
  pub kind : c.asked.kind < 2 ^ 8
  pub width : c.asked.width < 2 ^ 8
  pub value : c.asked.value < 2 ^ 32
  pub before : c.before.state.line < 2 ^ 16
  pub after : c.after.state.line < 2 ^ 16
  pub old : (k : ℕ) → get_or c.old k 0 < 2 ^ 32
  pub new : (k : ℕ) → get_or c.new k 0 < 2 ^ 32

pub few-digits : (bits : ℕ) → bit_digits bits < 5
unfolding bit_digits
few-digits bits = one_of {m = 2} {n = 4} 5 (ltb bits 0x100) (omega arith) (omega arith)

bits-short : (bits n : ℕ) → Total (phrase (hex_token (bit_digits bits) n ∷ [])) 5
unfolding tokens_text token_text up_to_dot
bits-short bits n = more (hex-within 5 (bit_digits bits) n (few-digits bits)) (ended refl)

reach-short : (number bits : ℕ) → Total (phrase (name_token number ∷ say "[" ∷ hex_token (bit_digits bits) bits ∷ say "] " ∷ [])) 18
unfolding tokens_text token_text ascii up_to_dot
reach-short number bits =
    more (name-within number) (more (spoken 1 refl) (more (hex-within 5 (bit_digits bits) bits (few-digits bits)) (more (spoken 2 refl) (ended refl))))

colour-within : (n : ℕ) → Within (colour_word n) 5
unfolding colour_word token_text ascii up_to_dot
colour-within n = either (eqb n 0) (spoken 5 refl) (either (eqb n 1) (spoken 5 refl) (spoken 5 refl))

-- words of a table
pub rows-within : (rows : List (List ℕ)) → T (every_below (λ (j : ℕ). leb (length (up_to_dot (get_or rows j no_words))) 24) (length rows)) → (k : ℕ)
    → Within (words_token (get_or rows k no_words)) 24
unfolding token_text up_to_dot
rows-within rows all k =
    by-test (ltb k (length rows))
    (λ e. record { most = leb→le _ 24 (below (λ (j : ℕ). leb (length (up_to_dot (get_or rows j no_words))) 24) (length rows) all k (ltb-true k (length rows) e)) })
    (λ e. record { most = rw (get_or-eq_default rows no_words {n = k} (ltb-false k (length rows) e)) (omega arith) })

pub row_within : (k : ℕ) → Within (words_token (get_or number_rows k no_words)) 24
unfolding number_rows number_names every_below up_to_dot ascii
row_within k = rows-within number_rows tt k

pub line-ends : {x y : Line} {n : ℕ} (b : Bool) → Ends x n → Ends y n → Ends (cond b x y) n
line-ends true a b = a
line-ends false a b = b

module _ (c : Case) (fits : Fitting c) where
  number-total : Total (phrase (decimal_token c.number ∷ [])) 20
  number-total = one-decimal 19 c.number (omega (arith, fits.number))

  head-ends : Ends (head_line c) 122
  unfolding head_line
  head-ends =
      ends-told
      (ends-column 59 (omega arith)
      (ends-told
      (ends-column 56 (omega arith)
      (ends-told
      (ends-column 36 (omega arith)
      (ends-told (ends-column 8 (omega arith) (ends-told nothing_yet number-total))
      (item-short c.asked c.whole (omega (arith, fits.kind)) (omega (arith, fits.width)) fits.value)))
      (looked-short c.asked c.whole (code_of c.answer) c.found)))
      (code-short c.answer)))
      (answer-short c.before c.asked c.whole c.answer)

  pub first_ends : Ends (first_line c) 157
  unfolding first_line register_part
  first_ends =
      by-test (eqb c.reach.bits 0) (λ e. rw e (ends-up 157 (omega arith) head-ends))
      (λ e. rw e
      (ends-changed 11 (not (eqb (register c.before c.reach.register) (register c.after c.reach.register))) (omega arith) (omega arith)
      (ends-told (ends-column 65 (omega arith) head-ends)
      (reach-short c.reach.register c.reach.bits))
      (bits-short c.reach.bits _) (bits-short c.reach.bits _)))

  part-ends : {label before after : List Token} {p n : ℕ} (k : ℕ) (shown moved : Bool) → 11 ≤ k → 4 + n ≤ k → Total label p → Total before n → Total after n
      → Ends (part_line c.number shown label before after moved) (65 + p + n + k)
  unfolding part_line
  part-ends k true moved a b label before after =
      ends-changed k moved a b
      (ends-told (ends-column 65 (omega arith) (ends-up 64 (omega arith) (ends-told nothing_yet number-total))) label) before after
  part-ends {p = p} {n = n} k false moved a b label before after = ends-up (65 + p + n + k) (omega arith) nothing_yet

  toggle-ends : Ends (toggle_line c) 157
  unfolding toggle_line toggle_words tokens_text token_text ascii up_to_dot
  toggle-ends =
      ends-up 157 (omega arith)
      (part-ends 11 _ _ (omega arith) (omega arith) (more (spoken 7 refl) (ended refl)) (more (either c.before.state.toggle (spoken 5 refl) (spoken 5 refl)) (ended refl))
      (more (either c.after.state.toggle (spoken 5 refl) (spoken 5 refl)) (ended refl)))

  pointer-total : (p : Pointer) → Total (pointer_words p) 29
  unfolding pointer_words byte_token tokens_text token_text ascii up_to_dot
  pointer-total p =
      more (hex-within 3 2 p.address (omega arith))
      (more (either p.reading (spoken 7 refl) (spoken 7 refl))
      (more (colour-within p.next)
      (more (spoken 7 refl)
      (more (hex-within 3 2 p.red (omega arith)) (more (spoken 1 refl) (more (hex-within 3 2 p.green (omega arith)) (ended refl)))))))

  pointer-ends : Ends (pointer_line c) 157
  unfolding pointer_line tokens_text token_text ascii up_to_dot
  pointer-ends =
      ends-up 157 (omega arith)
      (part-ends 33 _ _ (omega arith) (omega arith) (more (spoken 8 refl) (ended refl)) (pointer-total c.before.state.pointer) (pointer-total c.after.state.pointer))

  marks-total : (marks : ℕ) → Total (marks_words marks) 11
  unfolding marks_words tokens_text token_text ascii up_to_dot
  marks-total marks = more (either (eqb (marks / 4) 1) (spoken 6 refl) (spoken 6 refl)) (more (colour-within (marks % 4)) (ended refl))

  marks-ends : Ends (marks_line c) 157
  unfolding marks_line tokens_text token_text ascii up_to_dot
  marks-ends =
      ends-up 157 (omega arith)
      (part-ends 15 _ _ (omega arith) (omega arith) (more (spoken 6 refl) (ended refl)) (marks-total c.before.state.marks) (marks-total c.after.state.marks))

  entry-ends : Ends (entry_line c) 157
  unfolding entry_line tokens_text token_text ascii up_to_dot
  entry-ends =
      ends-up 157 (omega arith)
      (part-ends 11 _ _ (omega arith) (omega arith)
      (more (either c.reach.bank (spoken 14 refl) (spoken 14 refl)) (more (hex-within 3 2 _ (omega arith)) (more (spoken 1 refl) (ended refl))))
      (more (hex-within 7 6 _ (omega arith)) (ended refl)) (more (hex-within 7 6 _ (omega arith)) (ended refl)))

  beam-ends : Ends (beam_line c) 157
  unfolding beam_line tokens_text token_text ascii up_to_dot
  beam-ends =
      ends-up 157 (omega arith)
      (part-ends 11 _ _ (omega arith) (omega arith) (more (spoken 5 refl) (ended refl)) (one-decimal 4 _ (omega (arith, fits.before))) (one-decimal 4 _ (omega (arith, fits.after))))

  pub number-ends : (k : ℕ) → Ends (number_line c k) 157
  unfolding number_line number_label tokens_text token_text ascii up_to_dot
  number-ends k =
      ends-up 157 (omega arith)
      (part-ends 14 _ _ (omega arith) (omega arith) (more (row_within k) (more (spoken 1 refl) (ended refl)))
      (one-decimal 9 _ (omega (arith, fits.old k))) (one-decimal 9 _ (omega (arith, fits.new k))))

  -- no line of a case reaches its last place
  pub none-full : (k : ℕ) → (line_at c k).end < line_most
  unfolding line_at
  none-full k =
      let all = line-ends (eqb k 0) first_ends
      (line-ends (eqb k 1) toggle-ends
      (line-ends (eqb k 2) pointer-ends
      (line-ends (eqb k 3) marks-ends (line-ends (eqb k 4) entry-ends (line-ends (eqb k 5) beam-ends (number-ends (k - 6))))))) in
      omega (arith, all.most)

-- ---- a record

table-long : (w : Bool) → length (table w) ≡ 15
unfolding table
table-long true = refl
table-long false = refl

pub numbers-low : (f : File) → T (sound f) → (k : ℕ) → get_or (numbers_in f) k 0 < 2 ^ 32
unfolding numbers_in numbers_of
numbers-low f s k =
    by-test (ltb k 15)
    (λ e. let small = ltb-true k 15 e in
    omega (arith, number_in f s k small, read_below (2 ^ 31) 0 (table (wide f)) f.registers (table-bounded (wide f)) k (omega (arith, table-long (wide f), small))))
    (λ e. rw (get_or-eq_default (numbers_of (read_timing f).timing) 0 {n = k} (ltb-false k 15 e)) (omega arith))

-- a record whose fields fit its bytes, a number of 64 bits and a sound file: no line drops a byte
module _ (number : ℕ) (f : File) (item : Item) (low : number < 2 ^ 64) (s : T (sound f)) (kind : (record_in item).kind < 2 ^ 8)
    (width : (record_in item).width < 2 ^ 8) (value : (record_in item).value < 2 ^ 32) where
  pub case-fits : Fitting (case_of number f item)
  unfolding case_of last_line
  case-fits =
      record {
        number = low;
        kind = kind;
        width = width;
        value = value;
        before = omega (arith, line-sound f s);
        after = omega (arith, line-sound (access_item f item).file (item-sound f item s));
        old = numbers-low f s;
        new = numbers-low (access_item f item).file (item-sound f item s);
      }

  pub nothing-dropped : (k : ℕ) → (line_at (case_of number f item) k).end < line_most
  nothing-dropped = none-full (case_of number f item) case-fits
