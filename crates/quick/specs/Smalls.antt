-- What a run's engine goes by, and nobody beside 01 needs: a state as seven bytes and the line.
-- Assumes nothing.
use Rattle.std.specs.Prelude.{ℕ, cond, List, [], ◌∷◌, eqb, get_or}
use Rattle.file.specs.declared.chip.Chip.{Chip}
use Rattle.file.specs.declared.state.State.{State}

unfoldable pub smalls_of : State → List ℕ
smalls_of s =
    s.pointer.address
    ∷ cond s.pointer.reading 1 0
    ∷ s.pointer.next
    ∷ s.pointer.red
    ∷ s.pointer.green
    ∷ s.marks
    ∷ cond s.toggle 1 0
    ∷ []

unfoldable pub state_of : Chip → ℕ → List ℕ → State
state_of chip line smalls =
    record {
      pointer =
          record {
            address = get_or smalls 0 0;
            reading = eqb (get_or smalls 1 0) 1;
            next = get_or smalls 2 0;
            red = get_or smalls 3 0;
            green = get_or smalls 4 0;
          };
      marks = get_or smalls 5 0;
      toggle = eqb (get_or smalls 6 0) 1;
      chip = chip;
      line = line;
    }
