-- `access_noting` meets its contract: an unsound file's access reaches nothing, as its reader says. Assumes nothing.
use mathlib.Core.Path.{◌≡◌, refl, sym, ap, ap₂, ◌∙◌}
use Rattle.bits.proofs.Test.{by-test}
use Rattle.file.specs.declared.effect.Reach.{Reach}
use Rattle.file.specs.declared.registers.File.{File}
use Rattle.file.specs.Effects.{reach_of}
use Rattle.file.specs.Sound.{sound}
use Rattle.std.specs.Prelude.{Result}
use Rattle.std.specs.Result.{result_unwrap_or}
use Rattle.file.specs.declared.answer.Answer.{Answer}
use Rattle.file.specs.declared.effect.Effect.TheVariants.{Nothing}
use Rattle.access.specs.declared.record.Record.{Record}
use Rattle.access.specs.Access.{reach, read_reach}
use Rattle.access.proofs.Refusals.{unsound-effect}
use Rattle.touched.specs.Noted.{noted}
use Rattle.noting.specs.Noting.{access_noting}
use Rattle.noting.proofs.writing.access_noting.Goals as goal

reach-read : (f : File) (r : Record) → result_unwrap_or (read_reach f r) (reach_of Nothing) ≡ reach f r
unfolding read_reach reach
reach-read f r = by-test (sound f) (λ e. rw e refl) (λ e. rw e (sym (ap reach_of (unsound-effect f r e))))

pub returns : goal.returns
unfolding access_noting
returns c =
    let args = c.args in
    let read = c.unwrap_or-reach.ensures ∙ ap₂ result_unwrap_or c.reach.ensures c.none.ensures ∙ reach-read args.whole args.asked in
    let set = c.note.ensures ∙ ap (λ (r : Reach). noted r args.touched) read in
    λ i. record { done = c.access-done.ensures i; touched = set i }
