-- `go_on` runs a part of the second trace: a turn. Assumes nothing.
use Rattle.std.proofs.Common.{refl, arith}
use Rattle.shell.proofs.Bounds.{part-within}
use Rattle.shell.proofs.SecondTrace.{noted-file, noted-set}
use Rattle.shell.proofs.following.go_on.Goals as goal

pub returns : goal.returns
returns c =
    let done = c.run_noting-ran.ensures in
    let few = part-within c.args.part.now c.requires.part_len_bound in
    record {
      file = noted-file done c.requires.t (omega (arith, few));
      touched = noted-set done c.requires.t (omega (arith, few));
      more = refl;
      read = refl;
    }
