-- What is done on registers and the bytes of the state, quickly or in order, is 01's access. Assumes nothing.
use Prim.Native.Nat.{ℕ, ◌/◌, ◌%◌, ◌<◌, ◌≤◌}
use mathlib.Core.Path.{◌≡◌, refl, sym, ap, ap₂, ◌∙◌, subst}
use mathlib.Core.Bool.{true, false, cond, true≢false}
use mathlib.Core.List.{List}
use native.Mathlib.Omega.{arith}
use lib.Dec.{T, eqb, leb}
use borrow.Author.Tests.{ne_eqb}
use lib.ListN.{get_or}
use Rattle.bits.proofs.Test.{by-test}
use Rattle.file.specs.declared.answer.Answer.TheVariants.{Done, SpaceOff, OtherHalf}
use Rattle.file.specs.declared.chip.Chip.{Chip}
use Rattle.file.specs.declared.effect.Effect.{Effect}
use Rattle.file.specs.declared.effect.Effect.TheVariants.{Nothing, Store, Toggle, Move, Step, Paint, Pass}
use Rattle.file.specs.declared.registers.File.{File}
use Rattle.file.specs.declared.state.State.{State}
use Rattle.file.specs.Answers.{code_of, value_of, refused}
use Rattle.file.specs.Effects.{apply}
use Rattle.file.specs.File.{seen}
use Rattle.file.specs.Registers.{stored_table}
use Rattle.file.specs.Sound.{sound}
use Rattle.places.specs.declared.place.Place.{Place}
use Rattle.places.specs.EngineCells.{cell_table, cell_in, cell_place}
use Rattle.places.specs.Profile.{Reading, gives_held, gives_fixed, gives_device_id, gives_toggle, gives_palette_state, gives_vport_state, gives_dac_state, gives_address, gives_pixel, resets_toggle, gives_line, names_nothing, Writing, stores_to, read_only, sets_address, writes_pixel, stores_nothing, passes_lines, profile}
use Rattle.access.specs.declared.engine.Decision.{Decision}
use Rattle.access.specs.declared.engine.Meant.{Meant}
use Rattle.std.specs.Prelude.{Result, Err, Ok}
use Rattle.file.specs.declared.answer.Answer.{Answer}
use Rattle.access.specs.declared.engine.Meant.TheVariants.{At, Lines}
use Rattle.access.specs.declared.record.Record.{Record}
use Rattle.access.specs.Access.{locked_out, palette_up, shown_in, pixel_write, answer_of_read, read_effect, write_answer, write_effect, answer, effect}
use Rattle.access.specs.Checks.{is_write, space_off}
use Rattle.access.specs.Engine.{other_row, looked_by, decided_read, decided_write, decided_at, decided_from, decided_by, asks_pixel, decision}
use Rattle.access.proofs.DecidedByTables.{decided-by-tables}
use Rattle.access.proofs.SeenDecisions.{answer-seen}
use Rattle.access.proofs.SeenFiles.{none-shown, decided-refused, decided-write, decided-read}
use Rattle.quick.specs.Classes.{class_of, codes_of}
use Rattle.quick.specs.Painting.{paints, paints_bank, paints_colour}
use Rattle.quick.specs.Said.{plain_said, code_in, value_in, mark_in, pixel_in, paints_in, bank_in, colour_in, next_in, address_in}
use Rattle.quick.specs.Slots.{by_the_key, slot_true}
use Rattle.quick.specs.Smalls.{smalls_of, state_of}
use Rattle.quick.specs.Turned.{Turned}
use Rattle.quick.proofs.Parts.{same-state, says, unchanged, plain-pixel, plain-paints}
use Rattle.quick.proofs.SlotsTold.{its-class, looks, same_place, writes, short, code-told}
use Rattle.trace.specs.EngineServed.{Serves, served_of, Says, Turns}
use Rattle.trace.specs.declared.running.Served.{Served}
use Rattle.trace.proofs.ServedAccess.{colour-told}

-- ---- an effect on a file of which registers and state are looked at

parts : (e : Effect) (registers : List ℕ) (s : State) → apply e (seen registers s) ≡ seen (apply e (seen registers s)).registers (apply e (seen registers s)).state
unfolding apply seen
parts Nothing registers s = refl
parts (Store flips number reach value) registers s = refl
parts (Toggle toggle) registers s = refl
parts (Move pointer) registers s = refl
parts (Step pointer marks) registers s = refl
parts (Paint true entry pointer colour marks) registers s = refl
parts (Paint false entry pointer colour marks) registers s = refl
parts (Pass line) registers s = refl

same-chip : (e : Effect) (f : File) → (apply e f).state.chip ≡ f.state.chip
unfolding apply
same-chip Nothing f = refl
same-chip (Store flips number reach value) f = refl
same-chip (Toggle toggle) f = refl
same-chip (Move pointer) f = refl
same-chip (Step pointer marks) f = refl
same-chip (Paint true entry pointer colour marks) f = refl
same-chip (Paint false entry pointer colour marks) f = refl
same-chip (Pass line) f = refl

module _ (registers smalls : List ℕ) (chip : Chip) (line : ℕ) (asked : Record) where
  abbrev State₀ : State
  State₀ = state_of chip line smalls

  abbrev Seen : File
  Seen = seen registers State₀

  -- ---- quickly

  module _ (d : Decision) (same : decision Seen asked ≡ d) (after smalls-after : List ℕ) (said : ℕ) (t : Turned d Seen after smalls-after said) where
    its-effect : effect Seen asked ≡ d.effect
    unfolding decision
    its-effect = ap (λ (x : Decision). x.effect) same

    abbrev Left : State
    Left = (apply d.effect Seen).state

    state-left : state_of chip line smalls-after ≡ Left
    unfolding state_of seen
    state-left = same-state Left (sym (same-chip d.effect Seen)) (sym t.line) t.state

    pub quick-turns : (codes-after : List ℕ) → codes-after ≡ codes_of after → Turns registers smalls chip line asked after smalls-after codes-after line said
    unfolding decision served_of state_of seen
    quick-turns codes-after coded =
        record {
          served =
              record {
                code = t.code ∙ ap (λ (x : Decision). code_of x.answer) (sym same);
                value = t.value ∙ ap (λ (x : Decision). value_of x.answer) (sym same);
                pixel = t.pixel ∙ ap (λ (x : Decision). x.pixel) (sym same);
                left =
                    ap (λ (e : Effect). apply e Seen) its-effect ∙ parts d.effect registers State₀
                    ∙ ap₂ seen (sym t.held) (sym state-left);
                painting = t.painting ∙ ap paints (sym its-effect);
                bank = λ p. t.bank p ∙ ap (paints_bank false) (sym its-effect);
                colour = λ p. t.colour p ∙ ap (paints_colour (colour_in said)) (sym its-effect);
              };
          whole = t.state ∙ ap smalls_of (sym state-left);
          coded = coded;
          address = t.address;
          next = t.next;
        }

-- ---- what a slot says

class-small : (kind address : ℕ) → class_of kind address % 8 ≡ class_of kind address
unfolding class_of
class-small kind address =
    by-test (eqb (kind / 2) 1)
    (λ p. rw p (by-test (eqb (address / 16) 0x3B) (λ q. rw q) (λ q. rw q (by-test (eqb (address / 16) 0x3D) (λ x. rw x) (λ x. rw x)))))
    (λ p. rw p (by-test (eqb (kind / 2) 2) (λ q. rw q) (λ q. rw q)))

module _ (chip : Chip) (f : File) (mine : f.state.chip ≡ chip) (s : T (sound f)) (key limit class cell value : ℕ)
    (t : T (slot_true (cell_table chip) key limit class cell)) (fits : value < limit) where
  abbrev Asked : Record
  Asked = by_the_key key value

  abbrev Cells : List ℕ
  Cells = cell_table chip

  abbrev Tabled : List ℕ
  Tabled = stored_table chip

  by-tables : decision f Asked ≡ decided_by Cells Tabled f Asked
  by-tables = sym (ap (λ (c : Chip). decided_by (cell_table c) (stored_table c) f Asked) (sym mine) ∙ decided-by-tables f s Asked)

  class-code : get_or (codes_of f.registers) (class % 8) 0 ≡ cond (space_off f Asked) 3 (cond (other_row f Asked) 5 0)
  class-code =
      ap (λ (n : ℕ). get_or (codes_of f.registers) n 0)
      (ap (λ (n : ℕ). n % 8) (its-class Cells key limit class cell value t fits) ∙ class-small (key % 256) (key / 65536)) ∙ code-told f key value

  -- code 3 or 5
  pub refuses : (code said : ℕ) (smalls : List ℕ) → code ≡ get_or (codes_of f.registers) (class % 8) 0 → (code ≡ 0 → ⊥)
      → (code_in said ≡ code) × (value_in said ≡ 0) × (said < plain_said) → smalls ≡ smalls_of f.state
      → Turned (decision f Asked) f f.registers smalls said
  unfolding code_of value_of
  refuses code said smalls here some told same =
      by-test (space_off f Asked)
      (λ o. unchanged SpaceOff f (decision f Asked) said smalls
      (by-tables ∙ decided-refused Cells Tabled f Asked SpaceOff (looks Cells key limit class cell value t fits f ∙ rw o))
      (says SpaceOff told (here ∙ class-code ∙ rw o) refl) same)
      (λ o. by-test (other_row f Asked)
      (λ h. unchanged OtherHalf f (decision f Asked) said smalls
      (by-tables ∙ decided-refused Cells Tabled f Asked OtherHalf (looks Cells key limit class cell value t fits f ∙ rw (o, h)))
      (says OtherHalf told (here ∙ class-code ∙ rw (o, h)) refl) same)
      (λ h. absurd (some (here ∙ class-code ∙ rw (o, h)))))

  -- or the place answers
  module _ (none : get_or (codes_of f.registers) (class % 8) 0 ≡ 0) where
    abbrev Here : ℕ
    Here = cell_in Cells (key % 256) (key / 65536)

    through : looked_by Cells f Asked ≡ Ok (At Here)
    through =
        looks Cells key limit class cell value t fits f
        ∙ by-test (space_off f Asked)
        (λ o. absurd (let three : 0 ≡ 3 = sym none ∙ class-code ∙ rw o in let never : ⊥ = omega (arith, three) in never))
        (λ o. by-test (other_row f Asked)
        (λ h. absurd (let five : 0 ≡ 5 = sym none ∙ class-code ∙ rw (o, h) in let never : ⊥ = omega (arith, five) in never))
        (λ h. rw (o, h)))

    pub writes-there : key % 2 ≡ 1 → decision f Asked ≡ decided_write Tabled f (profile (cell_place Cells f cell)).writing (value % 65536)
    unfolding by_the_key
    writes-there odd =
        by-tables ∙ decided-write Cells Tabled f Asked Here through is-write
        ∙ ap₂ (λ (p : Place) (v : ℕ). decided_write Tabled f (profile p).writing v) (same_place Cells key limit class cell value t fits f) (sym small)
      where
        is-write : is_write Asked ≡ true
        is-write = writes Cells key limit class cell value t fits ∙ rw odd

        small : value % 65536 ≡ value
        small = omega (arith, short Cells key limit class cell value t fits is-write)

    pub reads-there : (key % 2 ≡ 1 → ⊥) → decision f Asked ≡ decided_read f (profile (cell_place Cells f cell)).reading
    reads-there even =
        by-tables ∙ decided-read Cells Tabled f Asked Here through (writes Cells key limit class cell value t fits ∙ ne_eqb (key % 2) 1 even)
        ∙ ap (λ (p : Place). decided_read f (profile p).reading) (same_place Cells key limit class cell value t fits f)

-- ---- equal states are served alike

pub serves-alike : (registers : List ℕ) (a b : State) {after : List ℕ} {asked : Record} {s : Served} → a ≡ b → Serves (seen registers a) asked after s
    → Serves (seen registers b) asked after s
serves-alike registers a b {after = after} {asked = asked} {s = s} same served = subst (λ (x : State). Serves (seen registers x) asked after s) same served

-- ---- in order: what paints is a pixel's write that is done

abbrev PaintsDone : Decision → Type 0
PaintsDone d = paints d.effect ≡ true → (code_of d.answer ≡ 0) × (value_of d.answer ≡ 0) × (d.pixel ≡ false)

write_done : (stored : List ℕ) (f : File) (w : Writing) (value : ℕ) → PaintsDone (decided_write stored f w value)
unfolding decided_write write_answer write_effect pixel_write refused code_of value_of paints
write_done stored f (stores_to number flips) value p = by-test (locked_out f number) (λ e. absurd (true≢false (sym (rw e at p)))) (λ e. absurd (true≢false (sym (rw e at p))))
write_done stored f read_only value p = absurd (true≢false (sym p))
write_done stored f (sets_address reading) value p = absurd (true≢false (sym p))
write_done stored f writes_pixel value p = by-test (palette_up f) (λ e. rw e (refl, refl, refl)) (λ e. absurd (true≢false (sym (rw e at p))))
write_done stored f (stores_nothing true) value p = absurd (true≢false (sym p))
write_done stored f (stores_nothing false) value p = absurd (true≢false (sym p))
write_done stored f passes_lines value p = absurd (true≢false (sym p))

read_done : (f : File) (r : Reading) → PaintsDone (decided_read f r)
unfolding decided_read answer_of_read read_effect refused code_of paints
read_done f (gives_held number) p = absurd (true≢false (sym p))
read_done f (gives_fixed value) p = absurd (true≢false (sym p))
read_done f gives_device_id p = absurd (true≢false (sym p))
read_done f gives_toggle p = absurd (true≢false (sym p))
read_done f gives_palette_state p = absurd (true≢false (sym p))
read_done f gives_vport_state p = absurd (true≢false (sym p))
read_done f gives_dac_state p = absurd (true≢false (sym p))
read_done f gives_address p = absurd (true≢false (sym p))
read_done f gives_pixel p = by-test (palette_up f) (λ e. absurd (true≢false (sym (rw e at p)))) (λ e. absurd (true≢false (sym (rw e at p))))
read_done f resets_toggle p = absurd (true≢false (sym p))
read_done f gives_line p = absurd (true≢false (sym p))
read_done f names_nothing p = absurd (true≢false (sym p))

looked-done : (cells stored : List ℕ) (f : File) (r : Record) (l : Result Meant Answer) → PaintsDone (decided_from cells stored f r l)
unfolding decided_from decided_at paints
looked-done cells stored f r (Err a) = λ p. absurd (true≢false (sym p))
looked-done cells stored f r (Ok (At cell)) =
    by-test (is_write r) (λ e. rw e (write_done stored f (profile (cell_place cells f cell)).writing r.value)) (λ e. rw e (read_done f (profile (cell_place cells f cell)).reading))
looked-done cells stored f r (Ok Lines) = write_done stored f passes_lines r.value

paint-done : (f : File) → T (sound f) → (r : Record) → PaintsDone (decision f r)
unfolding decided_by
paint-done f s r = subst PaintsDone (decided-by-tables f s r) (looked-done (cell_table f.state.chip) (stored_table f.state.chip) f r (looked_by (cell_table f.state.chip) f r))

module _ (registers smalls : List ℕ) (chip : Chip) (line : ℕ) (asked : Record) (good : T (sound (seen registers (state_of chip line smalls)))) where
  abbrev State₁ : State
  State₁ = state_of chip line smalls

  abbrev Seen₁ : File
  Seen₁ = seen registers State₁

  module _ (after : List ℕ) (s : Served) (served : Serves Seen₁ asked after s) (said : ℕ) (saying : Says s State₁.pointer said) where
    -- where it paints
    painted-zero : s.paints ≡ true → (code_of (answer Seen₁ asked) ≡ 0) × (value_of (answer Seen₁ asked) ≡ 0) × (asks_pixel Seen₁ asked ≡ false)
    unfolding decision
    painted-zero p = paint-done Seen₁ good asked (sym served.painting ∙ p)

    -- where it shows a pixel
    shown-zero : s.pixel ≡ true → (code_of (answer Seen₁ asked) ≡ 0) × (value_of (answer Seen₁ asked) ≡ 0)
    unfolding seen code_of value_of
    shown-zero p =
        let done : answer Seen₁ asked ≡ Done (shown_in Seen₁) = answer-seen Seen₁ asked ∙ rw (sym served.pixel ∙ p) refl in
        (ap code_of done, ap value_of done ∙ none-shown registers State₁)

    mark-told : (n : ℕ) → mark_in said ≡ n → (pixel_in said ≡ eqb n 1) × (paints_in said ≡ leb 2 n) × (bank_in said ≡ eqb n 3)
    unfolding pixel_in paints_in bank_in
    mark-told n e = (ap (λ (m : ℕ). eqb m 1) e, ap (λ (m : ℕ). leb 2 m) e, ap (λ (m : ℕ). eqb m 3) e)

    code-said : code_in said ≡ code_of (answer Seen₁ asked)
    code-said =
        by-test s.paints (λ p. (saying.paint p).0 ∙ sym (painted-zero p).0)
        (λ p. by-test s.pixel (λ q. (saying.pixel p q).0 ∙ sym (shown-zero q).0) (λ q. (saying.plain p q).0 ∙ served.code))

    value-said : value_in said ≡ value_of (answer Seen₁ asked)
    value-said =
        by-test s.paints (λ p. (saying.paint p).1 ∙ sym (painted-zero p).1)
        (λ p. by-test s.pixel (λ q. (saying.pixel p q).1 ∙ sym (shown-zero q).1) (λ q. (saying.plain p q).1 ∙ served.value))

    pixel-said : pixel_in said ≡ asks_pixel Seen₁ asked
    pixel-said =
        by-test s.paints
        (λ p. by-test s.bank (λ b. (mark-told 3 ((saying.paint p).2 ∙ rw b)).0 ∙ sym (painted-zero p).2) (λ b. (mark-told 2 ((saying.paint p).2 ∙ rw b)).0 ∙ sym (painted-zero p).2))
        (λ p. by-test s.pixel (λ q. (mark-told 1 (saying.pixel p q).2).0 ∙ sym q ∙ served.pixel) (λ q. plain-pixel said (saying.plain p q).2 ∙ sym q ∙ served.pixel))

    paints-said : paints_in said ≡ s.paints
    paints-said =
        by-test s.paints
        (λ p. by-test s.bank (λ b. (mark-told 3 ((saying.paint p).2 ∙ rw b)).1 ∙ sym p) (λ b. (mark-told 2 ((saying.paint p).2 ∙ rw b)).1 ∙ sym p))
        (λ p. by-test s.pixel (λ q. (mark-told 1 (saying.pixel p q).2).1 ∙ sym p) (λ q. plain-paints said (saying.plain p q).2 ∙ sym p))

    bank-said : s.paints ≡ true → bank_in said ≡ s.bank
    bank-said p = by-test s.bank (λ b. (mark-told 3 ((saying.paint p).2 ∙ rw b)).2 ∙ sym b) (λ b. (mark-told 2 ((saying.paint p).2 ∙ rw b)).2 ∙ sym b)

    address-said : plain_said ≤ said → address_in said ≡ State₁.pointer.address
    address-said h =
        by-test s.paints (λ p. (saying.paint p).3)
        (λ p. by-test s.pixel (λ q. (saying.pixel p q).3) (λ q. absurd (let never : ⊥ = omega (arith, h, (saying.plain p q).2) in never)))

    next-said : pixel_in said ≡ true → next_in said ≡ State₁.pointer.next
    next-said shows =
        by-test s.paints
        (λ p. absurd (true≢false (sym shows ∙ pixel-said ∙ (painted-zero p).2)))
        (λ p. by-test s.pixel (λ q. (saying.pixel p q).4) (λ q. absurd (true≢false (sym shows ∙ plain-pixel said (saying.plain p q).2))))

    chip-left : chip ≡ s.state.chip
    unfolding state_of seen
    chip-left = sym (same-chip (effect Seen₁ asked) Seen₁) ∙ ap (λ (f : File). f.state.chip) served.left

    pub ordered-turns : (smalls-after codes-after : List ℕ) (line_after : ℕ) → smalls-after ≡ smalls_of s.state → line_after ≡ s.state.line → codes-after ≡ codes_of after
        → Turns registers smalls chip line asked after smalls-after codes-after line_after said
    unfolding served_of
    ordered-turns smalls-after codes-after line_after same-smalls same_line coded =
        let left : state_of chip line_after smalls-after ≡ s.state = same-state s.state chip-left same_line same-smalls in
        record {
          served =
              record {
                code = code-said;
                value = value-said;
                pixel = pixel-said;
                left = served.left ∙ ap (seen after) (sym left);
                painting = paints-said ∙ served.painting;
                bank = λ p. bank-said (sym paints-said ∙ p) ∙ served.bank (sym paints-said ∙ p);
                colour = λ p. colour-of (sym paints-said ∙ p);
              };
          whole = same-smalls ∙ ap smalls_of (sym left);
          coded = coded;
          address = address-said;
          next = next-said;
        }
      where
        colour-of : s.paints ≡ true → colour_in said ≡ paints_colour (colour_in said) (effect Seen₁ asked)
        colour-of p = (saying.paint p).4 ∙ served.colour p ∙ colour-told (effect Seen₁ asked) s.colour (colour_in said) (sym served.painting ∙ p)
