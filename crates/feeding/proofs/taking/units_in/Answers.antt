-- `units_in` counts the units of a part. Assumes nothing.
use Rattle.std.proofs.Common.{ℕ, ◌+◌, ◌*◌, ◌/◌, ◌%◌, ◌-◌, ◌<◌, ◌≤◌, min, Bool, true, false, cond, ◌≡◌, refl, sym, ◌∙◌, arith, length}
use Rattle.std.proofs.lemmas.Grind.{div_ceil_times}
use Rattle.std.proofs.Math.Nat.{div-eq_of_lt-le, div-zero, add-mul}
use Rattle.feeding.specs.Feeding.{units_in}
use Rattle.feeding.proofs.taking.units_in.Goals as goal

-- a fragment counts as one
rounded-up : (n size : ℕ) → 0 < size → n / size + min 1 (n % size) ≡ (n + (size - 1)) / size
rounded-up n size some =
    let units : ℕ = n / size + min 1 (n % size) in
    let bounds : (n ≤ units * size) × (units * size < n + size) = div_ceil_times n size some in
    let next : (units + 1) * size ≡ units * size + 1 * size = add-mul units 1 size in
    sym (div-eq_of_lt-le size (omega (arith, bounds.1, some)) (omega (arith, bounds.0, next, some)))

-- no bytes are no units
none : (last : Bool) (n : ℕ) → 0 ≡ cond last ((n + 0) / 0) (n / 0)
none true n = sym (div-zero (n + 0))
none false n = sym (div-zero n)

pub returns-then-size-eq0 : goal.returns-then-size-eq0
unfolding units_in
returns-then-size-eq0 c = rw c.if-size-eq0.true (none c.args.last (length c.args.part.now))

pub returns-then-last : goal.returns-then-last
unfolding units_in
returns-then-last c =
    rw c.if-last.true (c.div_ceil.ensures ∙ rounded-up (length c.args.part.now) c.args.size (omega (arith, c.if-size-eq0.false)))

pub returns : goal.returns
unfolding units_in
returns c = rw c.if-last.false refl
