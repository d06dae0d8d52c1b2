-- Answer and effect of a record go by registers and state alone, but for the component that a pixel's read shows. Assumes nothing.
use Prim.Native.Nat.{ℕ}
use mathlib.Core.Path.{◌≡◌, refl, sym, ap, ap₂, ◌∙◌}
use mathlib.Core.Bool.{Bool, true, false, cond, not, ◌&&◌}
use mathlib.Core.List.{List, [], ◌∷◌}
use mathlib.Core.Option.{Option}
use lib.Dec.{T}
use Rattle.bits.proofs.Test.{left, right, by-test, is_true, and-false}
use Rattle.file.specs.declared.answer.Answer.{Answer}
use Rattle.file.specs.declared.answer.Answer.TheVariants.{Done, Malformed, SpaceOff, NotHeld, OtherHalf, WrongWidth, NotSound, OtherDirection, InsideWider}
use Rattle.file.specs.declared.effect.Effect.{Effect}
use Rattle.file.specs.declared.effect.Effect.TheVariants.{Nothing}
use Rattle.file.specs.declared.registers.File.{File}
use Rattle.file.specs.Answers.{code_of, refused}
use Rattle.file.specs.File.{register, seen, crtc_locked}
use Rattle.file.specs.Sound.{sound}
use Rattle.places.specs.declared.place.Place.{Place}
use Rattle.places.specs.Lookup.{place_of_row, place_at, other_way, held_in, inside_in}
use Rattle.places.specs.Places.{Row, places}
use Rattle.places.specs.Profile.{Reading, gives_held, gives_fixed, gives_device_id, gives_toggle, gives_palette_state, gives_vport_state, gives_dac_state, gives_address, gives_pixel, resets_toggle, gives_line, names_nothing, Writing, stores_to, read_only, sets_address, writes_pixel, stores_nothing, passes_lines, profile, reads_pixel}
use Rattle.places.proofs.SeenRows.{row_seen}
use Rattle.timing.specs.Table.{wide}
use Rattle.timing.specs.Timing.{timing_in}
use Rattle.access.specs.declared.engine.Decision.{Decision}
use Rattle.access.specs.declared.record.Record.{Record}
use Rattle.access.specs.Access.{place_of, locked_out, reach_in, palette_up, in_bank, entry_number, shown_in, v_port_state, v_total, v_display, v_sync_start, v_sync_end, line_shown, line_after, in_sync, past_display, display_state, answer_of_read, write_answer, answer_at, pixel_write, read_effect, write_effect, effect_at, answer, effect}
use Rattle.access.specs.Checks.{Check, carries, checks, first_refusal, not_sound, malformed, space_off, not_held, no_row, other_direction, inside_wider, of_other_half, other_width, wrong_width}
use Rattle.access.specs.Engine.{asks_pixel, decision}

-- a decision by its parts
pub same-decision : {a b : Answer} {d e : Effect} {p q : Bool} → a ≡ b → d ≡ e → p ≡ q
    → ◌≡◌ {A = Decision} (record { answer = a; effect = d; pixel = p }) (record { answer = b; effect = e; pixel = q })
same-decision a e p = λ i. record { answer = a i; effect = e i; pixel = p i }

-- every check of a list refuses
unfoldable pub all_refuse : List Check → Bool
all_refuse [] = true
all_refuse (c ∷ cs) = refused c.answer && all_refuse cs

pub checks-refuse : T (all_refuse checks)
unfolding all_refuse checks refused code_of
checks-refuse = tt

module _ (f : File) where
  -- the file of which no more is looked at
  abbrev Seen : File
  Seen = seen f.registers f.state

  read-effect : (reading : Reading) → read_effect f reading ≡ read_effect Seen reading
  unfolding read_effect line_shown v_total timing_in wide seen register
  read-effect (gives_held number) = refl
  read-effect (gives_fixed value) = refl
  read-effect gives_device_id = refl
  read-effect gives_toggle = refl
  read-effect gives_palette_state = refl
  read-effect gives_vport_state = refl
  read-effect gives_dac_state = refl
  read-effect gives_address = refl
  read-effect gives_pixel = refl
  read-effect resets_toggle = refl
  read-effect gives_line = refl
  read-effect names_nothing = refl

  write-effect : (writing : Writing) (value : ℕ) → write_effect (reach_in f) f writing value ≡ write_effect (reach_in Seen) Seen writing value
  unfolding write_effect pixel_write in_bank entry_number reach_in line_after line_shown v_total timing_in wide crtc_locked seen register
  write-effect (stores_to number flips) value = refl
  write-effect read_only value = refl
  write-effect (sets_address reading) value = refl
  write-effect writes_pixel value = refl
  write-effect (stores_nothing flips) value = refl
  write-effect passes_lines value = refl

  write-answer : (writing : Writing) → write_answer f writing ≡ write_answer Seen writing
  unfolding write_answer locked_out crtc_locked palette_up seen register
  write-answer (stores_to number flips) = refl
  write-answer read_only = refl
  write-answer (sets_address reading) = refl
  write-answer writes_pixel = refl
  write-answer (stores_nothing flips) = refl
  write-answer passes_lines = refl

  -- a read's answer is the same but for a pixel's component
  abbrev Shown : Bool → Answer → Answer
  Shown pixel a = cond (not (refused a) && pixel) (Done (shown_in f)) a

  read_answer : (reading : Reading) → answer_of_read f reading ≡ Shown (reads_pixel reading) (answer_of_read Seen reading)
  unfolding answer_of_read reads_pixel palette_up v_port_state display_state in_sync past_display line_shown v_total v_display v_sync_start v_sync_end timing_in wide refused code_of seen register
  read_answer (gives_held number) = refl
  read_answer (gives_fixed value) = refl
  read_answer gives_device_id = refl
  read_answer gives_toggle = refl
  read_answer gives_palette_state = refl
  read_answer gives_vport_state = refl
  read_answer gives_dac_state = refl
  read_answer gives_address = refl
  read_answer gives_pixel = by-test (palette_up Seen) (λ e. rw e refl) (λ e. rw e refl)
  read_answer resets_toggle = refl
  read_answer gives_line = refl
  read_answer names_nothing = refl

  -- the checks, with a row found by either file
  abbrev Checked : Record → Answer → Option Row → Answer
  Checked r otherwise row =
      cond (not (sound Seen)) NotSound
      (cond (malformed Seen r) Malformed
      (cond (space_off Seen r) SpaceOff
      (cond (no_row row && held_in (places f.state.chip) (other_way r.kind) r.address) OtherDirection
      (cond (no_row row && inside_in (places f.state.chip) r.kind r.address) InsideWider
      (cond (no_row row) NotHeld
      (cond (of_other_half Seen r) OtherHalf (cond (other_width r.width row) WrongWidth otherwise)))))))

  checks-seen : (r : Record) (otherwise : Answer) → first_refusal checks f r otherwise ≡ first_refusal checks Seen r otherwise
  unfolding first_refusal checks not_sound sound malformed space_off not_held other_direction inside_wider of_other_half wrong_width seen register
  checks-seen r otherwise = ap (Checked r otherwise) (row_seen f r.kind r.address)

  place-seen : (r : Record) → place_of f r ≡ place_of Seen r
  unfolding place_of place_at
  place-seen r = ap place_of_row (row_seen f r.kind r.address)

  -- what a place answers
  abbrev Pixel : Record → Bool
  Pixel r = not (carries r) && reads_pixel (profile (place_of Seen r)).reading

  answer-there : (r : Record) → answer_at (carries r) f (place_of f r) ≡ Shown (Pixel r) (answer_at (carries r) Seen (place_of Seen r))
  unfolding answer_at
  answer-there r =
      ap (λ (p : Place). answer_at (carries r) f p) (place-seen r)
      ∙ by-test (carries r)
      (λ w. rw (w, and-false) (write-answer (profile (place_of Seen r)).writing))
      (λ w. rw w (read_answer (profile (place_of Seen r)).reading))

  effect-there : (r : Record) → effect_at (carries r) f (place_of f r) r.value ≡ effect_at (carries r) Seen (place_of Seen r) r.value
  unfolding effect_at
  effect-there r =
      ap (λ (p : Place). effect_at (carries r) f p r.value) (place-seen r)
      ∙ ap₂ (λ (a b : Effect). cond (carries r) a b) (write-effect (profile (place_of Seen r)).writing r.value) (read-effect (profile (place_of Seen r)).reading)

  -- a refusal shows no pixel
  shown-refused : (pixel : Bool) (a : Answer) → refused a ≡ true → Shown pixel a ≡ a
  shown-refused pixel a e = rw e refl

  shown-done : (a : Answer) → refused a ≡ false → Shown true a ≡ Done (shown_in f)
  shown-done a e = rw e refl

  done-accepted : refused (Done (shown_in f)) ≡ false
  unfolding refused code_of
  done-accepted = refl

  refused-alike : (pixel : Bool) (a : Answer) → refused (Shown pixel a) ≡ refused a
  refused-alike true a =
      by-test (refused a) (λ e. ap refused (shown-refused true a e)) (λ e. ap refused (shown-done a e) ∙ done-accepted ∙ sym e)
  refused-alike false a = rw and-false refl

  shown-behind : (pixel : Bool) (cs : List Check) (r : Record) (a : Answer) → T (all_refuse cs)
      → first_refusal cs Seen r (Shown pixel a) ≡ Shown pixel (first_refusal cs Seen r a)
  unfolding first_refusal all_refuse
  shown-behind pixel [] r a t = refl
  shown-behind pixel (c ∷ cs) r a t =
      by-test (c.refuses Seen r)
      (λ e. rw e (sym (shown-refused pixel c.answer (is_true (refused c.answer) (left (refused c.answer) (all_refuse cs) t)))))
      (λ e. rw e (shown-behind pixel cs r a (right (refused c.answer) (all_refuse cs) t)))

  pub answer-seen : (r : Record) → answer f r ≡ cond (asks_pixel Seen r) (Done (shown_in f)) (answer Seen r)
  unfolding answer asks_pixel
  answer-seen r =
      ap (first_refusal checks f r) (answer-there r)
      ∙ checks-seen r (Shown (Pixel r) (answer_at (carries r) Seen (place_of Seen r)))
      ∙ shown-behind (Pixel r) checks r (answer_at (carries r) Seen (place_of Seen r)) checks-refuse

  refused-seen : (r : Record) → refused (answer f r) ≡ refused (answer Seen r)
  unfolding asks_pixel
  refused-seen r = ap refused (answer-seen r) ∙ refused-alike (Pixel r) (answer Seen r)

  pub effect-seen : (r : Record) → effect f r ≡ effect Seen r
  unfolding effect
  effect-seen r = ap₂ (λ (b : Bool) (e : Effect). cond b Nothing e) (refused-seen r) (effect-there r)

  pub asks-seen : (r : Record) → asks_pixel f r ≡ asks_pixel Seen r
  unfolding asks_pixel
  asks-seen r = ap₂ (λ (b : Bool) (p : Place). not b && (not (carries r) && reads_pixel (profile p).reading)) (refused-seen r) (place-seen r)

  -- the decision, where the pixel's component is put in
  pub decision-seen : (r : Record)
      → decision f r ≡ record { answer = cond (asks_pixel Seen r) (Done (shown_in f)) (answer Seen r); effect = effect Seen r; pixel = asks_pixel Seen r }
  unfolding decision
  decision-seen r = λ i. record { answer = answer-seen r i; effect = effect-seen r i; pixel = asks-seen r i }

  -- a decision in the file of which no more is looked at, with the pixel's component put in
  module _ (r : Record) (d : Decision) (e : d ≡ decision Seen r) where
    asks : d.pixel ≡ asks_pixel Seen r
    unfolding decision
    asks = ap (λ (x : Decision). x.pixel) e

    pub with-pixel : (shown : ℕ) → shown ≡ shown_in f → d.pixel ≡ true → record { answer = Done shown; effect = d.effect; pixel = true } ≡ decision f r
    unfolding decision
    with-pixel shown same pixel =
        let asked : true ≡ asks_pixel Seen r = sym pixel ∙ asks in
        same-decision
        (ap Done same ∙ ap (λ (b : Bool). cond b (Done (shown_in f)) (answer Seen r)) asked ∙ sym (answer-seen r))
        (ap (λ (x : Decision). x.effect) e ∙ sym (effect-seen r))
        (asked ∙ sym (asks-seen r))

    pub without-pixel : d.pixel ≡ false → d ≡ decision f r
    unfolding decision
    without-pixel pixel =
        e
        ∙ same-decision
        (ap (λ (b : Bool). cond b (Done (shown_in f)) (answer Seen r)) (sym pixel ∙ asks) ∙ sym (answer-seen r))
        (sym (effect-seen r)) (sym (asks-seen r))
