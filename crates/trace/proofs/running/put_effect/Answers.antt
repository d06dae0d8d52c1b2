-- `put_effect` meets its contract. Assumes nothing.
use Rattle.trace.proofs.EffectsInParts.{nothing_put, store-put, toggle-put, move-put, step-put, paint-put, pass-put}
use Rattle.trace.proofs.running.put_effect.Goals as goal

pub returns-in-Nothing : goal.returns-in-Nothing
returns-in-Nothing c = rw c.in-Nothing.is (nothing_put c.args.registers.now c.args.before)

pub returns-in-Store : goal.returns-in-Store
returns-in-Store c = rw c.in-Store.is (store-put c.args.registers.now c.args.before _ _ _ _ _ _ c.store_in.ensures c.flipped-after.ensures)

pub returns-in-Toggle : goal.returns-in-Toggle
returns-in-Toggle c = rw c.in-Toggle.is (toggle-put c.args.registers.now c.args.before _ _ c.toggling-after.ensures)

pub returns-in-Move : goal.returns-in-Move
returns-in-Move c = rw c.in-Move.is (move-put c.args.registers.now c.args.before _ _ c.pointing-after.ensures)

pub returns-in-Step : goal.returns-in-Step
returns-in-Step c = rw c.in-Step.is (step-put c.args.registers.now c.args.before _ _ _ c.stepping-after.ensures)

pub returns-in-Paint : goal.returns-in-Paint
returns-in-Paint c = rw c.in-Paint.is (paint-put c.args.registers.now c.args.before _ _ _ _ _ _ c.stepping-after-in-Paint.ensures)

pub returns-in-Pass : goal.returns-in-Pass
returns-in-Pass c = rw c.in-Pass.is (pass-put c.args.registers.now c.args.before _ _ c.passing-after.ensures)
