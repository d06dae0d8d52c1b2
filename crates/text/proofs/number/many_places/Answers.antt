use native.Mathlib.Omega.{arith}
use Rattle.text.proofs.Places.{one_place, more-places, most-places}
use Rattle.text.proofs.number.many_places.Goals as goal

pub loop-rest-init : goal.loop-rest-init
loop-rest-init c = omega arith

pub overflow_add-count : goal.overflow_add-count
overflow_add-count c = omega arith

pub loop-rest-smaller : goal.loop-rest-smaller
loop-rest-smaller c = omega arith

pub loop-rest-preserved : goal.loop-rest-preserved
loop-rest-preserved c = omega (arith, more-places c.loop-rest.rest (omega arith))

pub returns : goal.returns
returns c =
    let n = c.args.n in
    let rest = c.loop-rest.rest in
    let one = one_place rest rest (omega arith) in
    let most = most-places 19 n n (omega arith) in
    omega arith
