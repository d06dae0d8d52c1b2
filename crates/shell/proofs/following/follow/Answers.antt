-- `follow` leads to where the whole second trace leads. Assumes nothing.
use Rattle.std.proofs.Common.{◌≡◌, T, sym, refl, ap, ◌∙◌, subst, arith}
use borrow.Author.Tests.{not-false, not-true}
use Rattle.file.specs.declared.registers.File.{File}
use Rattle.file.specs.Sound.{sound}
use Rattle.shell.specs.Parts.{counted}
use Rattle.shell.proofs.SecondTrace.{followed-sound, followed-to-end, following-ended, following-none, following-on}
use Rattle.shell.proofs.following.follow.Goals as goal

-- the loop begins with the saved file
begun : (saved file : File) → T (sound saved) → file ≡ saved → T (sound file)
begun saved file good e = subst (λ (f : File). T (sound f)) (sym e) good

pub loop-turn-init : goal.loop-turn-init
loop-turn-init g c = following-none _ _ refl c.set_out-onward.ensures.1 c.set_out-onward.ensures.2

pub returns-then-not-onward : goal.returns-then-not-onward
returns-then-not-onward g c =
    rw c.set_out-onward.ensures.0 at (followed-to-end _ _ _ c.loop-turn.invariant (not-true _ c.if-not-onward.true))

pub go_on-onward-requires-clause-t : goal.go_on-onward-requires-clause-t
go_on-onward-requires-clause-t g c =
    followed-sound _ _ (begun _ _ c.requires c.set_out-onward.ensures.0) c.loop-turn.invariant.come

pub loop-turn-preserved : goal.loop-turn-preserved
loop-turn-preserved g c =
    let read = c.read_second-read.ensures in
    let unfailed = sym c.has_failed.ensures ∙ c.if-has_failed.false in
    following-on _ _ _ c.read_second-read.result _ _ c.loop-turn.invariant (not-false _ c.if-not-onward.false)
    (read.all_value ∙ ap (counted _) read.prefix_len.1) (read.all_bound unfailed) unfailed c.go_on-onward.ensures

pub returns : goal.returns
returns g c =
    rw c.set_out-onward.ensures.0 at
    (followed-to-end _ _ _ c.loop-turn.invariant (following-ended _ _ _ (omega arith) c.loop-turn.invariant))
