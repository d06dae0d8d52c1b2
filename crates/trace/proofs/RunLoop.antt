-- What the loop of a run holds, and that one record more keeps it. Assumes nothing.
use Prim.Native.Nat.{ℕ, ◌+◌, ◌*◌, ◌-◌, ◌/◌, ◌%◌, ◌≤◌, ◌<◌}
use mathlib.Core.Path.{◌≡◌, refl, sym, ap, ap₂, ◌∙◌}
use mathlib.Core.Bool.{Bool, true, false, cond, true≢false, not, ◌&&◌}
use mathlib.Core.List.{List, ◌++◌}
use mathlib.Core.Logic.{◌⊎◌, inl, inr}
use native.Mathlib.Numerals.{add-one}
use native.Mathlib.Omega.{arith}
use borrow.Author.Tests.{le-leb, eqb-true, ltb-true, ltb-false}
use lib.Dec.{ltb}
use lib.ListN.{length, get_or, set, take, drop, length-append, length-take, length-drop}
use lib.Seq.{take_at, drop_at, drop-drop}
use Rattle.bits.proofs.Test.{by-test}
use Rattle.file.specs.declared.chip.Chip.{Chip}
use Rattle.file.specs.declared.chip.Chip.TheVariants.{Gd5462, Gd5464}
use Rattle.file.specs.declared.answer.Answer.TheVariants.{Done}
use Rattle.file.specs.declared.effect.Effect.{Effect}
use Rattle.file.specs.declared.palette.Colour.{Colour}
use Rattle.file.specs.declared.registers.File.{File}
use Rattle.file.specs.declared.state.State.{State}
use Rattle.file.specs.Answers.{code_of, value_of}
use Rattle.file.specs.Effects.{apply}
use Rattle.file.specs.File.{register, seen, black, bank_count}
use Rattle.file.specs.Palette.{component}
use Rattle.file.specs.State.{unasked}
use Rattle.access.specs.declared.record.Item.TheVariants.{Whole}
use Rattle.access.specs.declared.record.Record.{Record}
use Rattle.access.specs.Access.{in_bank, entry_number, entry, shown_in, access, access_item, record_in, reply_to, answer, effect}
use Rattle.access.specs.Engine.{asks_pixel}
use Rattle.access.proofs.SeenDecisions.{answer-seen, effect-seen}
use Rattle.quick.specs.Classes.{codes_of}
use Rattle.quick.specs.Said.{plain_said, value_in, mark_in, pixel_in, paints_in, bank_in, colour_in, next_in, address_in}
use Rattle.quick.proofs.Parts.{plain-pixel, plain-paints}
use Rattle.quick.specs.Slots.{by_the_key}
use Rattle.quick.specs.Smalls.{smalls_of, state_of}
use Rattle.trace.specs.declared.running.Served.{Served}
use Rattle.trace.specs.EngineServed.{paints, Serves}
use Rattle.trace.specs.Records.{four, record_of, item_of, items, reply_bytes}
use Rattle.trace.specs.Run.{file_after, replies}
use Rattle.trace.proofs.EffectsInParts.{effect-lands, palette_after, bank_after, parts-after, pixel-keeps}
use Rattle.trace.proofs.RecordBytes.{record-at-place}
use Rattle.trace.proofs.RunMore.{items_more, file-more, replies-more, replies-length, items-length}
use Rattle.trace.proofs.ServedAccess.{colour-told}

eight : (n : ℕ) → 8 * n + 8 ≡ 8 * (n + 1)
eight n = omega arith

-- what holds on both ways to a join holds there
pub came-by : {A B C : Type 0} → A ⊎ B → (A → C) → (B → C) → C
came-by (inl a) f g = f a
came-by (inr b) f g = g b

-- a file put together from its parts
abbrev pub together : List ℕ → List Colour → List Colour → State → File
together registers palette bank state = record { registers = registers; palette = palette; bank = bank; state = state }

-- ---- what was said of a pixel or a colour

pixel-over : (said : ℕ) → pixel_in said ≡ true → plain_said ≤ said
pixel-over said p =
    by-test (ltb said plain_said)
    (λ l. absurd (true≢false (sym p ∙ plain-pixel said (ltb-true said plain_said l))))
    (λ l. ltb-false said plain_said l)

paints-over : (said : ℕ) → paints_in said ≡ true → plain_said ≤ said
paints-over said p =
    by-test (ltb said plain_said)
    (λ l. absurd (true≢false (sym p ∙ plain-paints said (ltb-true said plain_said l))))
    (λ l. ltb-false said plain_said l)

module _ (colours : List Colour) (said address : ℕ) (there : plain_said ≤ said → address_in said ≡ address) where
  pub painted-palette : cond (paints_in said && not (bank_in said)) (set colours (address_in said) (colour_in said)) colours
      ≡ cond (paints_in said && not (bank_in said)) (set colours address (colour_in said)) colours
  painted-palette =
      by-test (paints_in said)
      (λ p. ap (λ (n : ℕ). cond (paints_in said && not (bank_in said)) (set colours n (colour_in said)) colours) (there (paints-over said p)))
      (λ p. rw p refl)

  pub painted-bank : cond (paints_in said && bank_in said) (set colours (address_in said % bank_count) (colour_in said)) colours
      ≡ cond (paints_in said && bank_in said) (set colours (address % bank_count) (colour_in said)) colours
  painted-bank =
      by-test (paints_in said)
      (λ p. ap (λ (n : ℕ). cond (paints_in said && bank_in said) (set colours (n % bank_count) (colour_in said)) colours) (there (paints-over said p)))
      (λ p. rw p refl)

-- ---- one access on the parts

module _ (registers : List ℕ) (palette bank : List Colour) (state : State) (asked : Record) (after : List ℕ) (s : Served)
    (served : Serves (seen registers state) asked after s) where
  abbrev Now : File
  Now = together registers palette bank state

  abbrev Seen : File
  Seen = seen registers state

  abbrev E : Effect
  E = effect Seen asked

  same_effect : effect Now asked ≡ E
  same_effect = effect-seen Now asked

  -- where it paints, the colours that are served
  palette-served : palette_after state E palette ≡ cond (s.paints && not s.bank) (set palette state.pointer.address s.colour) palette
  palette-served =
      by-test s.paints
      (λ t. let p : paints E ≡ true = sym served.painting ∙ t in
      rw (p, t, sym (served.bank t))
      (ap (λ (c : Colour). cond (not s.bank) (set palette state.pointer.address c) palette) (sym (served.colour t ∙ colour-told E s.colour _ p))))
      (λ t. let p : paints E ≡ false = sym served.painting ∙ t in rw (p, t))

  bank-served : bank_after state E bank ≡ cond (s.paints && s.bank) (set bank (state.pointer.address % bank_count) s.colour) bank
  bank-served =
      by-test s.paints
      (λ t. let p : paints E ≡ true = sym served.painting ∙ t in
      rw (p, t, sym (served.bank t))
      (ap (λ (c : Colour). cond s.bank (set bank (state.pointer.address % bank_count) c) bank) (sym (served.colour t ∙ colour-told E s.colour _ p))))
      (λ t. let p : paints E ≡ false = sym served.painting ∙ t in rw (p, t))

  -- the file after it, of what the loop then has
  pub file-served : (palette-after bank-after : List Colour)
      → palette-after ≡ cond (s.paints && not s.bank) (set palette state.pointer.address s.colour) palette
      → bank-after ≡ cond (s.paints && s.bank) (set bank (state.pointer.address % bank_count) s.colour) bank
      → together after palette-after bank-after s.state ≡ apply (effect Now asked) Now
  unfolding seen
  file-served palette-after bank-after same-palette same-bank =
      sym
      (ap (λ (e : Effect). apply e Now) same_effect
      ∙ parts-after E Now (effect-lands Seen asked)
      ∙ (λ i. together (served.left i).registers ((palette-served ∙ sym same-palette) i) ((bank-served ∙ sym same-bank) i) (served.left i).state))

  -- its reply: what was read of a pixel is what the colours show
  abbrev Value : ℕ → Type 0
  Value value = value ≡ cond s.pixel (shown_in Now) s.value

  -- in the file without colours a pixel's read is done
  asked-done : asks_pixel Seen asked ≡ true → answer Seen asked ≡ Done (shown_in Seen)
  unfolding seen
  asked-done e = answer-seen Seen asked ∙ rw e refl

  pixel-answer : asks_pixel Seen asked ≡ true → answer Now asked ≡ Done (shown_in Now)
  unfolding seen
  pixel-answer e = answer-seen Now asked ∙ rw e refl

  plain-answer : asks_pixel Seen asked ≡ false → answer Now asked ≡ answer Seen asked
  unfolding seen
  plain-answer e = answer-seen Now asked ∙ rw e refl

  pub code-served : s.code ≡ code_of (answer Now asked)
  unfolding code_of
  code-served =
      served.code
      ∙ by-test (asks_pixel Seen asked)
      (λ e. ap code_of (asked-done e) ∙ sym (ap code_of (pixel-answer e)))
      (λ e. sym (ap code_of (plain-answer e)))

  pub value-served : (value : ℕ) → Value value → value ≡ value_of (answer Now asked)
  unfolding value_of
  value-served value h =
      h
      ∙ ap₂ (λ (b : Bool) (v : ℕ). cond b (shown_in Now) v) served.pixel served.value
      ∙ by-test (asks_pixel Seen asked)
      (λ e. rw e (sym (ap value_of (pixel-answer e))))
      (λ e. rw e (sym (ap value_of (plain-answer e))))

  -- the component of the entry that the pointer names, in the registers after the access: a pixel's read moves none
  kept : s.pixel ≡ true → after ≡ registers
  unfolding seen
  kept p = sym (ap (λ (f : File). f.registers) served.left) ∙ pixel-keeps Seen asked (sym served.pixel ∙ p)

  pub component-served : (b : Bool) (at within : ℕ) → s.pixel ≡ true → b ≡ in_bank (seen after state)
      → at ≡ state.pointer.address → within ≡ state.pointer.address % bank_count
      → component (cond b (get_or bank within black) (get_or palette at black)) state.pointer.next ≡ shown_in Now
  unfolding shown_in entry entry_number in_bank seen register
  component-served b at within p same-bank same_at same-within =
      ap (λ (c : Colour). component c state.pointer.next)
      (rw (same-bank, kept p, same_at, same-within) (by-test (in_bank Now) (λ e. rw e) (λ e. rw e)))

  -- as what was said has it
  pub shown-served : (said : ℕ) → s.pixel ≡ pixel_in said
      → (plain_said ≤ said → address_in said ≡ state.pointer.address) → (pixel_in said ≡ true → next_in said ≡ state.pointer.next)
      → cond (pixel_in said)
      (component (cond (in_bank (seen after unasked)) (get_or bank (address_in said % bank_count) black) (get_or palette (address_in said) black)) (next_in said))
      (value_in said)
      ≡ cond (pixel_in said) (shown_in Now) (value_in said)
  unfolding in_bank seen register
  shown-served said e address next =
      by-test (pixel_in said)
      (λ p. let at = address (pixel-over said p) in
      rw p
      (ap (component _) (next p)
      ∙ component-served (in_bank (seen after unasked)) (address_in said) (address_in said % bank_count) (e ∙ p) refl at (ap (λ (n : ℕ). n % bank_count) at)))
      (λ p. rw p refl)

-- ---- the loop

module _ (f : File) (trace before : List ℕ) where
  -- after n records: the parts are the file then, and the buffer has their replies
  pub record Held (count : ℕ) (buffer registers : List ℕ) (palette bank : List Colour) (state : State) (n : ℕ) : Type 0 where
    pub reached : n ≤ count
    pub file : together registers palette bank state ≡ file_after f (items n trace)
    pub said : buffer ≡ replies f (items n trace) ++ drop (8 * n) before

  -- the buffer with the reply in its place
  pub next-said : (n : ℕ) (buffer reply : List ℕ)
      → buffer ≡ replies f (items n trace) ++ drop (8 * n) before
      → replies f (items (n + 1) trace) ≡ replies f (items n trace) ++ reply
      → take (8 * n) buffer ++ reply ++ drop (8 * n + 8) buffer ≡ replies f (items (n + 1) trace) ++ drop (8 * (n + 1)) before
  next-said n buffer reply said more =
      ap₂ (λ (x y : List ℕ). x ++ reply ++ y)
      (ap (take (8 * n)) said ∙ take_at (replies f (items n trace)) (drop (8 * n) before) (8 * n) here)
      (sym (drop-drop 8 (8 * n) buffer)
      ∙ ap (drop 8) (ap (drop (8 * n)) said ∙ drop_at (replies f (items n trace)) (drop (8 * n) before) (8 * n) here)
      ∙ drop-drop 8 (8 * n) before ∙ ap (λ (k : ℕ). drop k before) (eight n))
      ∙ ap (λ (x : List ℕ). x ++ drop (8 * (n + 1)) before) (sym more)
    where
      here : length (replies f (items n trace)) ≡ 8 * n
      here = replies-length f (items n trace) ∙ ap (λ (k : ℕ). 8 * k) (items-length n trace)

  -- the n-th item of a trace long enough is a whole record
  pub whole_item : (n : ℕ) → 8 * n + 8 ≤ length trace → item_of (take 8 (drop (8 * n) trace)) ≡ Whole (record_of (take 8 (drop (8 * n) trace)))
  unfolding item_of
  whole_item n h = rw (le-leb 8 (length (take 8 (drop (8 * n) trace))) (simp (length-take, length-drop) (omega arith)))

  module _ (n : ℕ) (room : 8 * n + 8 ≤ length trace) where
    abbrev Then : File
    Then = file_after f (items n trace)

    abbrev Asked : Record
    Asked = record_of (take 8 (drop (8 * n) trace))

    -- the file after the record
    next-file : file_after f (items (n + 1) trace) ≡ apply (effect Then Asked) Then
    unfolding access_item access
    next-file =
        ap (file_after f) (ap (λ (k : ℕ). items k trace) (add-one n) ∙ items_more n trace)
        ∙ file-more f (items n trace) (item_of (take 8 (drop (8 * n) trace)))
        ∙ ap (λ i. (access_item Then i).file) (whole_item n room)

    -- the replies with the record's
    next-replies : replies f (items (n + 1) trace) ≡ replies f (items n trace) ++ reply_bytes (reply_to Asked (answer Then Asked))
    unfolding access_item access record_in
    next-replies =
        ap (replies f) (ap (λ (k : ℕ). items k trace) (add-one n) ∙ items_more n trace)
        ∙ replies-more f (items n trace) (item_of (take 8 (drop (8 * n) trace)))
        ∙ ap (λ i. replies f (items n trace) ++ reply_bytes (reply_to (record_in i) (access_item Then i).answer)) (whole_item n room)

  -- the buffer keeps its length
  pub buffer-long : {count : ℕ} {buffer registers : List ℕ} {palette bank : List Colour} {state : State} {n : ℕ}
      → Held count buffer registers palette bank state n → 8 * count ≤ length before → length buffer ≡ length before
  buffer-long {count = count} {n = n} h room =
      ap length h.said
      ∙ length-append (replies f (items n trace)) (drop (8 * n) before)
      ∙ ap₂ ◌+◌ (replies-length f (items n trace) ∙ ap (λ (k : ℕ). 8 * k) (items-length n trace)) (length-drop (8 * n) before)
      ∙ rest h.reached
    where
      rest : n ≤ count → 8 * n + (length before - 8 * n) ≡ length before
      rest reached = omega (arith, reached, room)

  -- one record more
  pub held-step : {count : ℕ} {buffer registers : List ℕ} {palette bank : List Colour} {state : State} {n : ℕ}
      → Held count buffer registers palette bank state n → n < count → 8 * n + 8 ≤ length trace
      → (asked : Record) → asked ≡ record_of (take 8 (drop (8 * n) trace))
      → (after : List ℕ) (s : Served) → Serves (seen registers state) asked after s
      → (value : ℕ) → value ≡ cond s.pixel (shown_in (together registers palette bank state)) s.value
      → (palette-after bank-after : List Colour)
      → palette-after ≡ cond (s.paints && not s.bank) (set palette state.pointer.address s.colour) palette
      → bank-after ≡ cond (s.paints && s.bank) (set bank (state.pointer.address % bank_count) s.colour) bank
      → (filled : List ℕ)
      → filled ≡ take (8 * n) buffer ++ reply_bytes (record { code = s.code; kind = asked.kind; address = asked.address; value = value }) ++ drop (8 * n + 8) buffer
      → Held count filled after palette-after bank-after s.state (n + 1)
  unfolding reply_to
  held-step {buffer = buffer} {registers = registers} {palette = palette} {bank = bank} {state = state} {n = n} h more room asked there after s served value shown palette-after bank-after same-palette same-bank filled fills =
      record {
        reached = omega (arith, more);
        file =
            file-served registers palette bank state asked after s served palette-after bank-after same-palette same-bank
            ∙ ap₂ (λ (g : File) (r : Record). apply (effect g r) g) h.file there
            ∙ sym (next-file n room);
        said = fills ∙ next-said n buffer _ h.said (next-replies n room ∙ ap (λ (l : List ℕ). replies f (items n trace) ++ l) same-reply);
      }
    where
      same-reply : reply_bytes (reply_to (record_of (take 8 (drop (8 * n) trace))) (answer (file_after f (items n trace)) (record_of (take 8 (drop (8 * n) trace)))))
          ≡ reply_bytes (record { code = s.code; kind = asked.kind; address = asked.address; value = value })
      same-reply =
          sym
          (ap₂ (λ (c v : ℕ). reply_bytes (record { code = c; kind = asked.kind; address = asked.address; value = v }))
          (code-served registers palette bank state asked after s served) (value-served registers palette bank state asked after s served value shown)
          ∙ ap₂ (λ (g : File) (r : Record). reply_bytes (reply_to r (answer g r))) h.file there)

-- ---- the loop, with the state as its bytes and the codes of the classes beside the registers

pub record Going (f : File) (trace before : List ℕ) (count : ℕ) (buffer registers : List ℕ) (palette bank : List Colour) (smalls codes : List ℕ) (chip : Chip) (line n : ℕ) : Type 0 where
  pub held : Held f trace before count buffer registers palette bank (state_of chip line smalls) n
  pub whole : smalls ≡ smalls_of (state_of chip line smalls)
  pub coded : codes ≡ codes_of registers

-- what holds of both chips
pub on-either : (P : Chip → Type 0) (chip : Chip) → P Gd5462 × P Gd5464 → P chip
on-either P Gd5462 b = b.0
on-either P Gd5464 b = b.1

pub pixel-paints : (said : ℕ) → pixel_in said ≡ true → paints_in said ≡ false
unfolding pixel_in paints_in
pixel-paints said p = rw (eqb-true (mark_in said) 1 p)

-- a record's key and value
pub key-record : (bytes : List ℕ) (at : ℕ) → ((i : ℕ) → get_or bytes i 0 < 256) → (key value : ℕ) → key ≡ four bytes at → value ≡ four bytes (at + 4)
    → by_the_key key value ≡ record_of (take 8 (drop at bytes))
unfolding by_the_key four
key-record bytes at small key value k v =
    (λ i. record { kind = kinds i; width = widths i; address = addresses i; value = value })
    ∙ record-at-place bytes at (get_or bytes (at + 2) 0 + 256 * get_or bytes (at + 3) 0) value refl
    (v ∙ (λ i. get_or bytes (at + 4) 0 + 256 * get_or bytes (after 1 5 refl i) 0 + 65536 * get_or bytes (after 2 6 refl i) 0 + 16777216 * get_or bytes (after 3 7 refl i) 0))
  where
    after : (m n : ℕ) → 4 + m ≡ n → at + 4 + m ≡ at + n
    after m n e = omega (arith, e)

    kinds : key % 256 ≡ get_or bytes at 0
    kinds = omega (arith, k, small at)

    widths : key / 256 % 256 ≡ get_or bytes (at + 1) 0
    widths = omega (arith, k, small at, small (at + 1))

    addresses : key / 65536 ≡ get_or bytes (at + 2) 0 + 256 * get_or bytes (at + 3) 0
    addresses = omega (arith, k, small at, small (at + 1), small (at + 2))
