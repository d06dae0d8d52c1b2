-- A file of which registers and state are looked at alone: it shows no colours. Assumes nothing.
use Prim.Native.Nat.{ℕ, zero, suc}
use mathlib.Core.Path.{◌≡◌, refl, ap, ◌∙◌}
use mathlib.Core.Bool.{true, false}
use mathlib.Core.List.{List}
use Rattle.bits.proofs.Test.{by-test}
use Rattle.file.specs.declared.answer.Answer.{Answer}
use Rattle.file.specs.declared.effect.Effect.TheVariants.{Nothing}
use Rattle.file.specs.declared.registers.File.{File}
use Rattle.file.specs.declared.state.State.{State}
use Rattle.file.specs.File.{register, seen, black}
use Rattle.file.specs.Palette.{component}
use Rattle.file.specs.State.{unasked}
use Rattle.places.specs.EngineCells.{cell_place}
use Rattle.places.specs.Profile.{passes_lines, profile}
use Rattle.std.specs.Prelude.{Err, Ok}
use Rattle.access.specs.declared.engine.Meant.TheVariants.{At, Lines}
use Rattle.access.specs.declared.record.Record.{Record}
use Rattle.access.specs.Access.{in_bank, entry, shown_in}
use Rattle.access.specs.Checks.{is_write, space_off}
use Rattle.access.specs.Engine.{other_row, looked_by, decided_write, decided_read, decided_at, decided_from, decided_by}

all-black : (n : ℕ) → component black n ≡ 0
unfolding component black
all-black zero = refl
all-black (suc zero) = refl
all-black (suc (suc n)) = refl

pub none-shown : (registers : List ℕ) (state : State) → shown_in (seen registers state) ≡ 0
unfolding shown_in entry seen
none-shown registers state =
    by-test (in_bank (seen registers state)) (λ e. rw e (all-black state.pointer.next)) (λ e. rw e (all-black state.pointer.next))

-- the checks don't look at the state
pub looked-alike : (cells registers : List ℕ) (state : State) (r : Record) → looked_by cells (seen registers unasked) r ≡ looked_by cells (seen registers state) r
unfolding looked_by space_off other_row seen register
looked-alike cells registers state r = refl

-- ---- what the engine decides, by what the checks say

module _ (cells stored : List ℕ) (f : File) (r : Record) where
  pub decided-refused : (a : Answer) → looked_by cells f r ≡ Err a → decided_by cells stored f r ≡ record { answer = a; effect = Nothing; pixel = false }
  unfolding decided_by decided_from
  decided-refused a e = ap (decided_from cells stored f r) e

  -- 02, 10/13
  pub decided-lines : looked_by cells f r ≡ Ok Lines → decided_by cells stored f r ≡ decided_write stored f passes_lines r.value
  unfolding decided_by decided_from
  decided-lines e = ap (decided_from cells stored f r) e

  module _ (cell : ℕ) (e : looked_by cells f r ≡ Ok (At cell)) where
    decided-there : decided_by cells stored f r ≡ decided_at stored (is_write r) f (cell_place cells f cell) r.value
    unfolding decided_by decided_from
    decided-there = ap (decided_from cells stored f r) e

    pub decided-write : is_write r ≡ true → decided_by cells stored f r ≡ decided_write stored f (profile (cell_place cells f cell)).writing r.value
    unfolding decided_at
    decided-write w = decided-there ∙ rw w refl

    pub decided-read : is_write r ≡ false → decided_by cells stored f r ≡ decided_read f (profile (cell_place cells f cell)).reading
    unfolding decided_at
    decided-read w = decided-there ∙ rw w refl
