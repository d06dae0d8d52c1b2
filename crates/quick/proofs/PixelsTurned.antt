-- The palette pointer's places on the bytes of the state. Assumes nothing.
use Prim.Native.Nat.{ℕ, ◌+◌, ◌%◌, ◌<◌, ◌≤◌}
use mathlib.Core.Path.{◌≡◌, refl, sym, ap, ap₂, ◌∙◌, subst}
use mathlib.Core.Bool.{Bool, true, false, cond, true≢false}
use mathlib.Core.List.{List, []}
use native.Mathlib.Omega.{arith}
use lib.Dec.{eqb}
use lib.ListN.{set}
use borrow.Author.Tests.{le-leb}
use Rattle.bits.proofs.Test.{by-test}
use Rattle.file.specs.declared.answer.Answer.TheVariants.{Done, PaletteDown}
use Rattle.file.specs.declared.effect.Effect.TheVariants.{Move, Step, Paint}
use Rattle.file.specs.declared.palette.Pointer.{Pointer}
use Rattle.file.specs.declared.registers.File.{File}
use Rattle.file.specs.declared.state.State.{State}
use Rattle.file.specs.Answers.{code_of, value_of, refused}
use Rattle.file.specs.Effects.{apply}
use Rattle.file.specs.File.{seen}
use Rattle.file.specs.Palette.{addressed, moved, after_write, after_read, stores, mixed, marks_from}
use Rattle.file.specs.State.{pointing, stepping}
use Rattle.file.proofs.Colours.{blue-left}
use Rattle.places.specs.EngineCells.{taken}
use Rattle.places.specs.Profile.{gives_pixel, sets_address, writes_pixel, reads_pixel}
use Rattle.access.specs.declared.engine.Decision.{Decision}
use Rattle.access.specs.Access.{palette_up, in_bank, entry_number, shown_in, answer_of_read, read_effect, write_answer, write_effect, pixel_write}
use Rattle.access.specs.Engine.{decided_read, decided_write}
use Rattle.access.proofs.SeenFiles.{none-shown}
use Rattle.quick.specs.Painting.{paints, paints_bank, paints_colour}
use Rattle.quick.specs.Said.{plain_said, code_in, value_in, mark_in, pixel_in, paints_in, bank_in, colour_in, next_in, address_in, Told}
use Rattle.quick.specs.Smalls.{smalls_of}
use Rattle.quick.specs.Turned.{Turned}
use Rattle.quick.proofs.Parts.{made, unchanged}

pub small-byte : (byte : ℕ) → byte < 256 → byte % 256 ≡ byte
small-byte byte h = omega (arith, h)

-- ---- the bytes behind a read

module _ (s : State) where
  pub read-red : s.pointer.next ≡ 0 → set (set (smalls_of s) 5 4) 2 1 ≡ smalls_of (stepping (after_read s.pointer) (marks_from true s.pointer) s)
  unfolding smalls_of stepping after_read moved marks_from
  read-red n = rw n

  pub read-green : s.pointer.next ≡ 1 → set (set (smalls_of s) 5 5) 2 2 ≡ smalls_of (stepping (after_read s.pointer) (marks_from true s.pointer) s)
  unfolding smalls_of stepping after_read moved marks_from
  read-green n = rw n

  -- the state with other marks, whose next entry's red is due
  pub marked : (marks : ℕ) → State
  unfolding stepping
  marked marks = stepping s.pointer marks s

  abbrev pub Risen : ℕ → List ℕ
  Risen marks = smalls_of (pointing (addressed s.pointer.reading ((s.pointer.address + 1) % 256)) (stepping s.pointer marks s))

  module _ (not-red : s.pointer.next ≡ 0 → ⊥) (not-green : s.pointer.next ≡ 1 → ⊥) where
    pub read-blue : Risen 6 ≡ smalls_of (stepping (after_read s.pointer) (marks_from true s.pointer) s)
    unfolding smalls_of pointing stepping addressed after_read moved marks_from
    read-blue =
        sym (ap₂ (λ (p : Pointer) (m : ℕ). smalls_of (stepping p (4 + m) s)) (blue-left s.pointer.next _ _ _ not-red not-green) (blue-left s.pointer.next 0 1 2 not-red not-green))

    pub write-blue : (byte : ℕ) → Risen 2 ≡ smalls_of (stepping (after_write s.pointer byte) (marks_from false s.pointer) s)
    unfolding smalls_of pointing stepping addressed after_write moved marks_from
    write-blue byte =
        sym (ap₂ (λ (p : Pointer) (m : ℕ). smalls_of (stepping p (0 + m) s)) (blue-left s.pointer.next _ _ _ not-red not-green) (blue-left s.pointer.next 0 1 2 not-red not-green))

    pub blue-stores : stores s.pointer ≡ true
    unfolding stores
    blue-stores = le-leb 2 s.pointer.next (two s.pointer.next not-red not-green)
      where
        two : (n : ℕ) → (n ≡ 0 → ⊥) → (n ≡ 1 → ⊥) → 2 ≤ n
        two n a b = omega (arith, a, b)

-- ---- decisions

module _ (registers : List ℕ) (s : State) where
  abbrev Seen : File
  Seen = seen registers s

  pub read_down : palette_up Seen ≡ false → (smalls : List ℕ) (said : ℕ) → Told PaletteDown said → smalls ≡ smalls_of s
      → Turned (decided_read Seen gives_pixel) Seen registers smalls said
  unfolding decided_read answer_of_read read_effect reads_pixel refused code_of seen
  read_down down smalls said t same = unchanged PaletteDown Seen (decided_read Seen gives_pixel) said smalls (rw down) t same

  read_up : palette_up Seen ≡ true
      → decided_read Seen gives_pixel ≡ record { answer = Done (shown_in Seen); effect = Step (after_read s.pointer) (marks_from true s.pointer); pixel = true }
  unfolding decided_read answer_of_read read_effect reads_pixel refused code_of seen
  read_up up = rw up

  marks-one : (said : ℕ) → mark_in said ≡ 1 → paints_in said ≡ false
  unfolding paints_in
  marks-one said m = rw m

  pub pixel-read : palette_up Seen ≡ true → (smalls : List ℕ) (said : ℕ)
      → (code_in said ≡ 0) × (value_in said ≡ 0) × (mark_in said ≡ 1) × (address_in said ≡ s.pointer.address) × (next_in said ≡ s.pointer.next) × (plain_said ≤ said)
      → smalls ≡ smalls_of (stepping (after_read s.pointer) (marks_from true s.pointer) s)
      → Turned (decided_read Seen gives_pixel) Seen registers smalls said
  unfolding apply code_of value_of pixel_in paints seen stepping
  pixel-read up smalls said t same =
      subst (λ (d : Decision). Turned d Seen registers smalls said) (sym (read_up up))
      (record {
        code = t.0;
        value = t.1 ∙ sym (none-shown registers s);
        pixel = rw t.2;
        held = refl;
        state = same;
        line = refl;
        address = λ h. t.3;
        next = λ p. t.4;
        painting = marks-one said t.2;
        bank = λ p. absurd (true≢false (sym p ∙ marks-one said t.2));
        colour = λ p. absurd (true≢false (sym p ∙ marks-one said t.2));
      })

  -- ---- writes

  module _ (byte : ℕ) (small : byte % 256 ≡ byte) where
    abbrev Writes : Decision
    Writes = decided_write [] Seen writes_pixel byte

    pub write-down : palette_up Seen ≡ false → (smalls : List ℕ) (said : ℕ) → Told PaletteDown said → smalls ≡ smalls_of s
        → Turned Writes Seen registers smalls said
    unfolding decided_write write_answer write_effect refused code_of seen
    write-down down smalls said t same = unchanged PaletteDown Seen Writes said smalls (rw down) t same

    module _ (up : palette_up Seen ≡ true) where
      held_back : stores s.pointer ≡ false
          → Writes ≡ record { answer = Done 0; effect = Step (after_write s.pointer byte) (marks_from false s.pointer); pixel = false }
      unfolding decided_write write_answer write_effect pixel_write taken refused code_of seen
      held_back none = rw (up, none, small)

      holds : (smalls : List ℕ) (said : ℕ) → stores s.pointer ≡ false → Told (Done 0) said
          → smalls ≡ smalls_of (stepping (after_write s.pointer byte) (marks_from false s.pointer) s) → Turned Writes Seen registers smalls said
      unfolding apply paints seen stepping
      holds smalls said none t same =
          made (Done 0) (Step (after_write s.pointer byte) (marks_from false s.pointer)) Seen Writes said registers smalls (held_back none) t refl refl same refl

      pub hold-red : (smalls : List ℕ) (said : ℕ) → s.pointer.next ≡ 0 → Told (Done 0) said → smalls ≡ set (set (set (smalls_of s) 5 0) 2 1) 3 byte
          → Turned Writes Seen registers smalls said
      unfolding smalls_of stepping after_write moved marks_from stores
      hold-red smalls said n t same = holds smalls said (rw n) t (same ∙ sym (rw n))

      pub hold-green : (smalls : List ℕ) (said : ℕ) → s.pointer.next ≡ 1 → Told (Done 0) said → smalls ≡ set (set (set (smalls_of s) 5 1) 2 2) 4 byte
          → Turned Writes Seen registers smalls said
      unfolding smalls_of stepping after_write moved marks_from stores
      hold-green smalls said n t same = holds smalls said (rw n) t (same ∙ sym (rw n))

      paint-due : stores s.pointer ≡ true
          → Writes
          ≡ record {
            answer = Done 0;
            effect = Paint (in_bank Seen) (entry_number Seen) (after_write s.pointer byte) (mixed s.pointer byte) (marks_from false s.pointer);
            pixel = false;
          }
      unfolding decided_write write_answer write_effect pixel_write taken refused code_of seen
      paint-due blue = rw (up, blue, small)

      pub paints-blue : (smalls : List ℕ) (said : ℕ) → stores s.pointer ≡ true
          → (code_in said ≡ 0) × (value_in said ≡ 0) × (mark_in said ≡ cond (in_bank Seen) 3 2) × (address_in said ≡ s.pointer.address) × (colour_in said ≡ mixed s.pointer byte) × (plain_said ≤ said)
          → smalls ≡ smalls_of (stepping (after_write s.pointer byte) (marks_from false s.pointer) s) → Turned Writes Seen registers smalls said
      unfolding apply code_of value_of pixel_in paints_in bank_in paints paints_bank paints_colour seen stepping
      paints-blue smalls said blue t same =
          subst (λ (d : Decision). Turned d Seen registers smalls said) (sym (paint-due blue))
          (record {
            code = t.0;
            value = t.1;
            pixel = rw t.2 (by-test (in_bank Seen) (λ e. rw e) (λ e. rw e));
            held = by-test (in_bank Seen) (λ e. rw e) (λ e. rw e);
            state = same;
            line = refl;
            address = λ h. t.3;
            next = λ p. absurd (true≢false (sym p ∙ rw t.2 (by-test (in_bank Seen) (λ e. rw e) (λ e. rw e))));
            painting = rw t.2 (by-test (in_bank Seen) (λ e. rw e) (λ e. rw e));
            bank = λ p. rw t.2 (by-test (in_bank Seen) (λ e. rw e) (λ e. rw e));
            colour = λ p. t.4;
          })

  -- 3C7h and 3C8h
  pub address-set : (mode byte : ℕ) (smalls : List ℕ) (said : ℕ) → byte % 256 ≡ byte → mode ≡ cond (eqb mode 1) 1 0 → Told (Done 0) said
      → smalls ≡ set (set (set (set (set (smalls_of s) 0 byte) 1 mode) 2 0) 3 0) 4 0
      → Turned (decided_write [] Seen (sets_address (eqb mode 1)) byte) Seen registers smalls said
  unfolding decided_write write_answer write_effect taken refused code_of seen apply paints smalls_of pointing addressed
  address-set mode byte smalls said small bit t same =
      made (Done 0) (Move (addressed (eqb mode 1) byte)) Seen (decided_write [] Seen (sets_address (eqb mode 1)) byte) said registers smalls (rw small) t refl refl
      (same ∙ ap (λ (m : ℕ). set (set (set (set (set (smalls_of s) 0 byte) 1 m) 2 0) 3 0) 4 0) bit) refl

-- ---- whatever table of stored bits, and a word's low byte for the word

pub pixel-alike : (stored : List ℕ) (f : File) (low value : ℕ) → low ≡ value % 256 → decided_write [] f writes_pixel low ≡ decided_write stored f writes_pixel value
unfolding decided_write write_effect taken
pixel-alike stored f low value e = rw (e, twice value)
  where
    twice : (n : ℕ) → n % 256 % 256 ≡ n % 256
    twice n = omega arith

pub address-alike : (stored : List ℕ) (f : File) (reading : Bool) (low value : ℕ) → low ≡ value % 256
    → decided_write [] f (sets_address reading) low ≡ decided_write stored f (sets_address reading) value
unfolding decided_write write_effect taken
address-alike stored f reading low value e = rw (e, twice value)
  where
    twice : (n : ℕ) → n % 256 % 256 ≡ n % 256
    twice n = omega arith
