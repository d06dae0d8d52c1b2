use native.Mathlib.Omega.{arith}
use mathlib.Core.Bool.{true}
use mathlib.Core.Path.{refl}
use Rattle.plan.specs.EngineEntries.{entries_named}
use Rattle.plan.proofs.Appending.{all_left}
use Rattle.plan.proofs.NamedEntries.{named-room, named-turn, named-turned}
use Rattle.plan.proofs.short_stages.put_entries_named.Goals as goal

pub loop-i-init : goal.loop-i-init
loop-i-init c = record { rest = all_left _ _ (entries_named true 0 c.args.named.now c.args.colours.now); few = omega arith }

pub put_entry-at-requires : goal.put_entry-at-requires
put_entry-at-requires c =
    named-room c.requires.marks.0 refl c.loop-i.invariant _ c.loop-i-test.true c.requires.room

pub loop-i-preserved : goal.loop-i-preserved
loop-i-preserved c =
    named-turn c.requires.marks.0 refl c.loop-i.invariant _ c.loop-i-test.true c.put_entry-at.ensures

pub returns : goal.returns
returns c = named-turned c.requires.marks.0 refl c.loop-i.invariant c.loop-i-test.false
