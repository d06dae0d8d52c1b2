-- An effect put on registers and state leaves the file that it makes; every access lands, and what it paints is the entry that the pointer names.
-- Assumes nothing.
use Prim.Native.Nat.{ℕ, ◌%◌, ◌<◌}
use mathlib.Core.Path.{◌≡◌, refl, sym, ap, ap₂, ◌∙◌, subst}
use mathlib.Core.Bool.{Bool, true, false, cond, true≢false, not, ◌&&◌}
use mathlib.Core.List.{List}
use lib.Dec.{T, eqb→eq, eqb_refl, ltb→lt}
use lib.ListN.{get_or, set}
use Rattle.bits.specs.Store.{store}
use Rattle.bits.proofs.Test.{right}
use Rattle.file.specs.declared.effect.Effect.{Effect}
use Rattle.file.specs.declared.effect.Effect.TheVariants.{Nothing, Store, Toggle, Move, Step, Paint, Pass}
use Rattle.file.specs.declared.palette.Colour.{Colour}
use Rattle.file.specs.declared.palette.Pointer.{Pointer}
use Rattle.file.specs.declared.registers.File.{File}
use Rattle.file.specs.declared.state.State.{State}
use Rattle.file.specs.Effects.{apply}
use Rattle.file.specs.File.{register, seen, bank_count}
use Rattle.file.specs.Registers.{register_count}
use Rattle.file.specs.State.{pointing, stepping, toggling, flipped, passing}
use Rattle.places.specs.EngineCells.{reads_file, writes_file, in_file}
use Rattle.places.specs.Profile.{Writing, profile}
use Rattle.places.proofs.RulesOfPlaces.{place-in-file}
use Rattle.access.specs.declared.record.Record.{Record}
use Rattle.access.specs.Access.{place_of, reach_in, in_bank, entry_number, write_effect, effect}
use Rattle.access.specs.Engine.{asks_pixel}
use Rattle.access.proofs.Refusals.{by_read, by-write, by-effect}
use Rattle.trace.specs.declared.running.Served.{Served}
use Rattle.trace.specs.EngineServed.{paints, paints_bank, paints_colour, lands, Puts}

-- a file without colours has none to store
painted-none : (registers : List ℕ) (bank : Bool) (entry : ℕ) (pointer : Pointer) (colour : Colour) (marks : ℕ) (state : State)
    → apply (Paint bank entry pointer colour marks) (seen registers state) ≡ seen registers (stepping pointer marks state)
unfolding apply seen
painted-none registers true entry pointer colour marks state = refl
painted-none registers false entry pointer colour marks state = refl

-- what is left of a served access, with another state
abbrev with_state : State → Served → Served
with_state new s =
    record { code = s.code; value = s.value; state = new; pixel = s.pixel; paints = s.paints; bank = s.bank; colour = s.colour }

module _ (registers : List ℕ) (before : Served) where
  pub nothing_put : Puts registers before Nothing registers before
  unfolding apply seen paints paints_bank paints_colour
  nothing_put = record { code = refl; value = refl; pixel = refl; left = λ t. refl; painting = λ e. e; bank = refl; colour = refl }

  pub store-put : (number reach value : ℕ) (flips : Bool) (after : List ℕ) (state : State)
      → (number < register_count → after ≡ set registers number (store reach (get_or registers number 0) value)) → state ≡ flipped flips before.state
      → Puts registers before (Store flips number reach value) after (with_state state before)
  unfolding apply seen register paints paints_bank paints_colour lands
  store-put number reach value flips after state stored flip =
      record {
        code = refl;
        value = refl;
        pixel = refl;
        left = λ t. ap₂ (λ (l : List ℕ) (s : State). seen l s) (sym (stored (ltb→lt number register_count t))) (sym flip);
        painting = λ e. e;
        bank = refl;
        colour = refl;
      }

  pub toggle-put : (toggle : Bool) (state : State) → state ≡ toggling toggle before.state → Puts registers before (Toggle toggle) registers (with_state state before)
  unfolding apply seen paints paints_bank paints_colour
  toggle-put toggle state e =
      record { code = refl; value = refl; pixel = refl; left = λ t. ap (seen registers) (sym e); painting = λ e. e; bank = refl; colour = refl }

  pub move-put : (pointer : Pointer) (state : State) → state ≡ pointing pointer before.state → Puts registers before (Move pointer) registers (with_state state before)
  unfolding apply seen paints paints_bank paints_colour
  move-put pointer state e =
      record { code = refl; value = refl; pixel = refl; left = λ t. ap (seen registers) (sym e); painting = λ e. e; bank = refl; colour = refl }

  pub step-put : (pointer : Pointer) (marks : ℕ) (state : State) → state ≡ stepping pointer marks before.state
      → Puts registers before (Step pointer marks) registers (with_state state before)
  unfolding apply seen paints paints_bank paints_colour
  step-put pointer marks state e =
      record { code = refl; value = refl; pixel = refl; left = λ t. ap (seen registers) (sym e); painting = λ e. e; bank = refl; colour = refl }

  pub paint-put : (bank : Bool) (entry : ℕ) (pointer : Pointer) (colour : Colour) (marks : ℕ) (state : State) → state ≡ stepping pointer marks before.state
      → Puts registers before (Paint bank entry pointer colour marks) registers
      (record { code = before.code; value = before.value; state = state; pixel = before.pixel; paints = true; bank = bank; colour = colour })
  unfolding paints paints_bank paints_colour
  paint-put bank entry pointer colour marks state e =
      record {
        code = refl;
        value = refl;
        pixel = refl;
        left = λ t. painted-none registers bank entry pointer colour marks before.state ∙ ap (seen registers) (sym e);
        painting = λ e. refl;
        bank = refl;
        colour = refl;
      }

  pub pass-put : (line : ℕ) (state : State) → state ≡ passing line before.state → Puts registers before (Pass line) registers (with_state state before)
  unfolding apply seen paints paints_bank paints_colour
  pass-put line state e =
      record { code = refl; value = refl; pixel = refl; left = λ t. ap (seen registers) (sym e); painting = λ e. e; bank = refl; colour = refl }

-- ---- every access lands

write-lands : (f : File) (writing : Writing) (value : ℕ) → T (writes_file writing) → T (lands f.state (write_effect (reach_in f) f writing value))
unfolding lands entry_number writes_file
write-lands f writing value h =
    by-write (λ (e : Effect). T (lands f.state e)) (reach_in f) f writing value tt
    (λ number flips e. subst (λ (w : Writing). T (writes_file w)) e h) (λ reading. tt) tt
    (eqb_refl (cond (in_bank f) (f.state.pointer.address % bank_count) f.state.pointer.address)) (λ e. tt) (λ e. tt)

pub effect-lands : (f : File) (r : Record) → T (lands f.state (effect f r))
unfolding lands in_file place_of
effect-lands f r =
    by-effect (λ (e : Effect). T (lands f.state e)) f r tt
    (λ n w. write-lands f (profile (place_of f r)).writing r.value
    (right (reads_file (profile (place_of f r)).reading) (writes_file (profile (place_of f r)).writing) (place-in-file f r.kind r.address)))
    (by_read (λ (e : Effect). T (lands f.state e)) f (profile (place_of f r)).reading tt tt (λ e. tt))

-- ---- the whole file, from its registers and state, and what is painted

-- the colours with what an effect paints, where the pointer stood
abbrev pub palette_after : State → Effect → List Colour → List Colour
palette_after stood e palette =
    cond (paints e && not (paints_bank false e)) (set palette stood.pointer.address (paints_colour (record { red = 0; green = 0; blue = 0 }) e)) palette

abbrev pub bank_after : State → Effect → List Colour → List Colour
bank_after stood e bank =
    cond (paints e && paints_bank false e) (set bank (stood.pointer.address % bank_count) (paints_colour (record { red = 0; green = 0; blue = 0 }) e)) bank

pub parts-after : (e : Effect) (f : File) → T (lands f.state e)
    → apply e f
    ≡ record {
      registers = (apply e (seen f.registers f.state)).registers;
      palette = palette_after f.state e f.palette;
      bank = bank_after f.state e f.bank;
      state = (apply e (seen f.registers f.state)).state;
    }
unfolding apply seen register paints paints_bank paints_colour lands
parts-after Nothing f t = refl
parts-after (Store flips number reach value) f t = refl
parts-after (Toggle toggle) f t = refl
parts-after (Move pointer) f t = refl
parts-after (Step pointer marks) f t = refl
parts-after (Paint true entry pointer colour marks) f t =
    ap (λ (n : ℕ). record { registers = f.registers; palette = f.palette; bank = set f.bank n colour; state = stepping pointer marks f.state })
    (eqb→eq entry (f.state.pointer.address % bank_count) t)
parts-after (Paint false entry pointer colour marks) f t =
    ap (λ (n : ℕ). record { registers = f.registers; palette = set f.palette n colour; bank = f.bank; state = stepping pointer marks f.state })
    (eqb→eq entry f.state.pointer.address t)
parts-after (Pass line) f t = refl

-- a read of a pixel moves no register
pub pixel-keeps : (f : File) (r : Record) → asks_pixel f r ≡ true → (apply (effect f r) f).registers ≡ f.registers
unfolding asks_pixel apply
pixel-keeps f r e =
    by-effect (λ (x : Effect). (apply x f).registers ≡ f.registers) f r refl
    (λ n w. absurd (true≢false (sym (rw (n, w) at e))))
    (by_read (λ (x : Effect). (apply x f).registers ≡ f.registers) f (profile (place_of f r)).reading refl refl (λ x. refl))
