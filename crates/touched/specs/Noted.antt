-- 02, 11/13: what 'an access, timing write or modeline has stored into (an equal value too) or moved', by its reach.
-- Assumes nothing.
use Rattle.std.specs.Prelude.{ℕ, Bool, true, false, cond, not, ◌&&◌, ◌||◌, List, [], ◌∷◌, eqb, set}
use Rattle.file.specs.declared.effect.Reach.{Reach}
use Rattle.touched.specs.declared.set.Touched.{Touched}
use Rattle.touched.specs.Things.{Thing, a_register, in_palette, in_bank, the_pointer, the_marks, the_toggle}

-- what a reach reaches. Every register stores some bit (`all-store`), so a write that is done reaches its register whatever its value is: an equal one,
-- and one whose bits are all dropped
unfoldable pub reaches : Reach → Thing → Bool
reaches r (a_register n) = not (eqb r.bits 0) && eqb n r.register
reaches r (in_palette n) = r.palette && eqb n r.entry
reaches r (in_bank n) = r.bank && eqb n r.entry
reaches r the_pointer = r.pointer
reaches r the_marks = r.marks
reaches r the_toggle = r.toggle

-- a list that says of each number whether it is named, and one more that is where there is one
unfoldable pub also : Bool → ℕ → List Bool → List Bool
also more n named = cond more (set named n true) named

-- the set with what was reached: it names exactly what it named and what was reached (`noted-names`)
unfoldable pub noted : Reach → Touched → Touched
unfolding also
noted r s =
    record {
      registers = also (not (eqb r.bits 0)) r.register s.registers;
      palette = also r.palette r.entry s.palette;
      bank = also r.bank r.entry s.bank;
      pointer = s.pointer || r.pointer;
      marks = s.marks || r.marks;
      toggle = s.toggle || r.toggle;
    }

-- the same for the union of several reaches (`all_named`)
unfoldable pub any_reaches : List Reach → Thing → Bool
any_reaches [] t = false
any_reaches (r ∷ rs) t = reaches r t || any_reaches rs t

unfoldable pub noted_all : List Reach → Touched → Touched
noted_all [] s = s
noted_all (r ∷ rs) s = noted_all rs (noted r s)
