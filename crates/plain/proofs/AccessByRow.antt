-- By a list that says 01's places and stored bits, the checks and the row that is found give 01's answer and 01's file. Assumes nothing.
use Prim.Native.Nat.{ℕ, ◌<◌, ◌^◌}
use mathlib.Core.Path.{◌≡◌, refl, sym, ap, ap₂, ◌∙◌, subst}
use mathlib.Core.Bool.{Bool, true, false, cond, true≢false, not, ◌&&◌}
use mathlib.Core.List.{List}
use mathlib.Core.Option.{some}
use lib.Dec.{T, eqb, eqb→eq}
use Rattle.std.specs.Prelude.{Result, Ok, Err}
use native.Mathlib.Omega.{arith}
use lib.ListN.{get_or}
use Rattle.bits.proofs.Test.{left, right, either, by-test, is_true}
use Rattle.file.specs.declared.answer.Answer.{Answer}
use Rattle.file.specs.declared.effect.Effect.{Effect}
use Rattle.file.specs.declared.effect.Effect.TheVariants.{Nothing}
use Rattle.file.specs.declared.registers.File.{File}
use Rattle.file.specs.Answers.{refused}
use Rattle.file.specs.Effects.{apply}
use Rattle.file.specs.Registers.{stored_bits, stored_table}
use Rattle.places.specs.declared.place.Place.{Place}
use Rattle.places.specs.EngineCells.{in_file, takes_bytes}
use Rattle.places.specs.Lookup.{matches, selects, row_at, place_of_row, place_at}
use Rattle.places.specs.Places.{Row as PlaceRow}
use Rattle.places.specs.Profile.{Writing, stores_to, read_only, sets_address, writes_pixel, stores_nothing, passes_lines, profile, stores_into}
use Rattle.places.proofs.Rows.{Passes, row-passes}
use Rattle.places.proofs.RulesOfPlaces.{narrow, all-narrow, place-in-file}
use Rattle.access.specs.declared.record.Record.{Record}
use Rattle.access.specs.Access.{place_of, reach_in, answer_at, effect_at, write_effect, answer, effect}
use Rattle.access.specs.Checks.{is_write, carries, malformed}
use Rattle.access.specs.Engine.{no_access, lines_pass}
use Rattle.access.proofs.PassedChecks.{kind-below, value-fits, word_fits, carries-below, Passing, is-passing, malformed-told}
use Rattle.plain.specs.declared.row.Row.{Row}
use Rattle.plain.specs.Looked.{looked_over}
use Rattle.plain.specs.Rows.{Listed, rows_of, of_chip, index_of, said, bits_right}
use Rattle.plain.specs.Told.{told, told_of_read, row_reach, write_told, access_told}
use Rattle.plain.specs.Walk.{is_at, selected, fits}
use Rattle.plain.proofs.KindsOfRecord.{or-swapped}
use Rattle.plain.proofs.LookedInOrder.{settled, row-meant, in_order, is-refused, Passed, passed}
use Rattle.plain.proofs.RowsSay.{meant_row, found-passes}

-- a write by a row's bits is one by the register's, where the row has these
same_effect : (f : File) (stored : ℕ) (writing : Writing) (value : ℕ) → stored ≡ get_or (stored_table f.state.chip) (stores_into writing) 0
    → write_effect (row_reach f stored) f writing value ≡ write_effect (reach_in f) f writing value
unfolding write_effect row_reach reach_in stored_bits stores_into
same_effect f stored (stores_to number flips) value e = rw e
same_effect f stored read_only value e = refl
same_effect f stored (sets_address reading) value e = refl
same_effect f stored writes_pixel value e = refl
same_effect f stored (stores_nothing flips) value e = refl
same_effect f stored passes_lines value e = refl

-- a record in good form is an ordinary access, or lets lines pass
by_form : {P : Type 0} (f : File) (r : Record) → malformed f r ≡ false → (no_access r ≡ false → P) → (Passing r → P) → P
by_form f r m access lines =
    by-test (no_access r)
    (λ n. by-test (lines_pass r) (λ p. lines (is-passing r p)) (λ p. absurd (true≢false (rw (n, p) at (sym (malformed-told f r) ∙ m)))))
    access

-- of an access what brings a value is a write
writes : (r : Record) → no_access r ≡ false → carries r ≡ true → is_write r ≡ true
writes r n c = sym (carries-below r (kind-below r n)) ∙ c

module _ (lines : List (List ℕ)) (listed : Listed lines) (f : File) (r : Record) where
  abbrev Rows : List Row
  Rows = rows_of lines

  abbrev Looks : Result Row Answer
  Looks = looked_over Rows f r

  answer-settled : answer f r ≡ settled Looks (answer_at (carries r) f (place_of f r))
  unfolding answer
  answer-settled = in_order Rows f r (listed.places f.state.chip) (answer_at (carries r) f (place_of f r))

  -- what the checks refuse is answered so, and leaves the file
  pub refused-told : (a : Answer) → Looks ≡ Err a → record { answer = a; file = f } ≡ access_told f r
  unfolding access_told effect apply settled
  refused-told a e = sym (ap₂ (λ (x : Answer) (y : Bool). record { answer = x; file = apply (cond y Nothing (effect_at (carries r) f (place_of f r) r.value)) f }) same (ap refused same ∙ is_true (refused a) (is-refused Rows f r a e)))
    where
      same : answer f r ≡ a
      same = answer-settled ∙ ap (λ (l : Result Row Answer). settled l (answer_at (carries r) f (place_of f r))) e

  -- past them the record's place is the row's
  module _ (row : Row) (e : Looks ≡ Ok row) where
    through : Passed Rows f r row
    through = passed Rows f r row e

    meant : row_at f r.kind r.address ≡ some (said row r.kind)
    unfolding meant_row
    meant = row-meant Rows f r (listed.places f.state.chip) ∙ ap (meant_row f r.kind r.address) through.there

    place-there : place_of f r ≡ row.place
    unfolding place_of place_at place_of_row said
    place-there = ap place_of_row meant

    answer-there : answer f r ≡ answer_at (carries r) f (place_of f r)
    unfolding settled
    answer-there = answer-settled ∙ ap (λ (l : Result Row Answer). settled l (answer_at (carries r) f (place_of f r))) e

    pub names-file : T (in_file row.place)
    unfolding place_of
    names-file = subst (λ (p : Place). T (in_file p)) place-there (place-in-file f r.kind r.address)

    pub fits_word : carries r ≡ true → r.value < 65536
    fits_word c = by_form f r through.formed (λ n. word_fits r n (writes r n c)) (λ p. p.value)

    -- the pointer's places are one byte wide
    pub fits_byte : carries r ≡ true → T (takes_bytes (profile row.place).writing) → r.value < 256
    unfolding narrow said
    fits_byte c t =
        by_form f r through.formed
        (λ n. subst (λ (k : ℕ). r.value < 256 ^ k) width (value-fits r n (writes r n c)))
        (λ p. absurd (omega (arith, width, p.width)))
      where
        rule : T (narrow (said row r.kind) && matches f r.kind r.address (said row r.kind))
        rule = subst (Passes (λ (x : PlaceRow). narrow x && matches f r.kind r.address x)) meant (row-passes f r.kind r.address narrow all-narrow)

        one : T (eqb row.width 1)
        one =
            either (not (takes_bytes (profile row.place).writing)) (eqb row.width 1)
            (subst (λ (b : Bool). T b) (or-swapped (eqb row.width 1) (not (takes_bytes (profile row.place).writing)))
            (left (narrow (said row r.kind)) (matches f r.kind r.address (said row r.kind)) rule))
            (λ n. true≢false (sym (is_true (not (takes_bytes (profile row.place).writing)) n) ∙ ap not (is_true (takes_bytes (profile row.place).writing) t)))

        width : r.width ≡ 1
        width = sym through.width ∙ eqb→eq row.width 1 one

    -- its bits are the register's on the file's chip
    bits-there : row.stored ≡ get_or (stored_table f.state.chip) (stores_into (profile row.place).writing) 0
    unfolding bits_right fits selected
    bits-there =
        eqb→eq _ _
        (either (not (of_chip f.state.chip row)) (eqb row.stored (get_or (stored_table f.state.chip) (stores_into (profile row.place).writing) 0))
        (left (bits_right f.state.chip (stored_table f.state.chip) row) (fits f r.kind r.address row) passes)
        (λ n. true≢false (sym (is_true (not (of_chip f.state.chip row)) n) ∙ ap not (is_true (of_chip f.state.chip row) of-chip))))
      where
        passes : T (bits_right f.state.chip (stored_table f.state.chip) row && fits f r.kind r.address row)
        passes = found-passes (bits_right f.state.chip (stored_table f.state.chip)) (fits f r.kind r.address) Rows row (listed.bits f.state.chip) through.there

        of-chip : T (of_chip f.state.chip row)
        of-chip =
            left (of_chip f.state.chip row) (selects f (index_of row))
            (right (is_at r.kind r.address row) (selected f row) (right (bits_right f.state.chip (stored_table f.state.chip) row) (fits f r.kind r.address row) passes))

    -- what is told there
    told-there : (a : Answer) (does : Effect) → a ≡ answer f r → does ≡ effect_at (carries r) f (place_of f r) r.value → told f a does ≡ access_told f r
    unfolding told access_told effect
    told-there a does same_answer same_effect = λ i. told f (same_answer i) (same_effect i)

    pub write-told : carries r ≡ true → write_told f row.stored (profile row.place).writing r.value ≡ access_told f r
    unfolding write_told answer_at effect_at
    write-told w =
        told-there _ _
        (sym (answer-there ∙ rw (w, place-there) refl))
        (same_effect f row.stored (profile row.place).writing r.value bits-there ∙ sym (rw (w, place-there) refl))

    pub read_told : carries r ≡ false → told_of_read f (profile row.place).reading ≡ access_told f r
    unfolding told_of_read answer_at effect_at
    read_told w = told-there _ _ (sym (answer-there ∙ rw (w, place-there) refl)) (sym (rw (w, place-there) refl))
