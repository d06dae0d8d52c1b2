-- What a run's engine goes by, and nobody beside 01 needs: codes 3 and 5 by classes of kinds and addresses.
-- Assumes nothing.
use Rattle.std.specs.Prelude.{ℕ, ◌/◌, ◌%◌, cond, List, [], ◌∷◌, eqb, get_or}
use Rattle.file.specs.Names.{MISC, PCI04}

-- config space, ports, those of 3B?h and of 3D?h, MMIO
unfoldable pub class_of : ℕ → ℕ → ℕ
class_of kind address =
    cond (eqb (kind / 2) 1) (cond (eqb (address / 16) 0x3B) 2 (cond (eqb (address / 16) 0x3D) 3 1)) (cond (eqb (kind / 2) 2) 4 0)

-- by class: code 3, 'port access with PCI04[0]=0, or MMIO access with PCI04[1]=0'; then 5, '3B4h/3B5h/3BAh while MISC[0]=1, or 3D4h/3D5h/3DAh while it is 0'
unfoldable pub codes_of : List ℕ → List ℕ
codes_of registers =
    let ports = eqb (get_or registers PCI04 0 % 2) 0 in
    let mmio = eqb (get_or registers PCI04 0 / 2 % 2) 0 in
    let colour = eqb (get_or registers MISC 0 % 2) 1 in
    0 ∷ cond ports 3 0 ∷ cond ports 3 (cond colour 5 0) ∷ cond ports 3 (cond colour 0 5) ∷ cond mmio 3 0 ∷ 0 ∷ 0 ∷ 0 ∷ []
