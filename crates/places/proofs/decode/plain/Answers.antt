-- `plain` meets its contract. Assumes nothing.
use Prim.Native.Nat.{ℕ, suc, ◌-◌, ◌≤◌}
use mathlib.Core.Path.{◌≡◌, refl, sym, ap, ◌∙◌}
use native.Mathlib.Omega.{arith}
use lib.ListN.{get_or}
use Rattle.places.specs.declared.place.Place.TheVariants.{Unnamed}
use borrow.Author.Tests.{le-ltb, lt-ltb}
use Rattle.places.specs.EngineCells.{first_alone, alone, plain_place}
use Rattle.places.proofs.decode.plain.Goals as goal

-- behind the places that stand alone
last : (cell : ℕ) → 0x78 ≤ cell → cell - first_alone ≡ suc (suc (suc (suc (suc (suc (suc (suc (suc (suc (suc (suc (cell - 0x78))))))))))))
last cell h = omega arith

alone-ends : (k : ℕ) → get_or alone (suc (suc (suc (suc (suc (suc (suc (suc (suc (suc (suc (suc k)))))))))))) Unnamed ≡ Unnamed
unfolding alone
alone-ends k = refl

pub returns-then-number-lt-REGISTERS : goal.returns-then-number-lt-REGISTERS
unfolding plain_place
returns-then-number-lt-REGISTERS c = rw (← c.from-number.ensures, lt-ltb _ _ c.if-number-lt-REGISTERS.true)

pub returns-in-108 : goal.returns-in-108
unfolding plain_place
returns-in-108 c = rw c.in-108.is

pub returns-in-109 : goal.returns-in-109
unfolding plain_place
returns-in-109 c = rw c.in-109.is

pub returns-in-110 : goal.returns-in-110
unfolding plain_place
returns-in-110 c = rw c.in-110.is

pub returns-in-111 : goal.returns-in-111
unfolding plain_place
returns-in-111 c = rw c.in-111.is

pub returns-in-112 : goal.returns-in-112
unfolding plain_place
returns-in-112 c = rw c.in-112.is

pub returns-in-113 : goal.returns-in-113
unfolding plain_place
returns-in-113 c = rw c.in-113.is

pub returns-in-114 : goal.returns-in-114
unfolding plain_place
returns-in-114 c = rw c.in-114.is

pub returns-in-115 : goal.returns-in-115
unfolding plain_place
returns-in-115 c = rw c.in-115.is

pub returns-in-116 : goal.returns-in-116
unfolding plain_place
returns-in-116 c = rw c.in-116.is

pub returns-in-117 : goal.returns-in-117
unfolding plain_place
returns-in-117 c = rw c.in-117.is

pub returns-in-118 : goal.returns-in-118
unfolding plain_place
returns-in-118 c = rw c.in-118.is

pub returns-in-119 : goal.returns-in-119
unfolding plain_place
returns-in-119 c = rw c.in-119.is

pub returns-in_default : goal.returns-in_default
unfolding plain_place
returns-in_default c =
    let past : 0x78 ≤ c.args.cell = omega (arith, c.from-number.ensures) in
    let other : 108 ≤ c.args.cell = omega arith in
    rw (le-ltb _ _ other) (sym (ap (λ (n : ℕ). get_or alone n Unnamed) (last c.args.cell past) ∙ alone-ends (c.args.cell - 0x78)))
