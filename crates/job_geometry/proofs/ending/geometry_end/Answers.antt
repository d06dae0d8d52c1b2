-- `geometry_end` meets its contract. Assumes nothing.
use Rattle.std.proofs.Common.{arith}
use Rattle.geometry.specs.Geometry.{read_geometry}
use Rattle.job_geometry.specs.GeometryText.{geometry_most, geometry_text}
use Rattle.job_geometry.proofs.LinesPut.{lines-placed, lines-refused}
use Rattle.job_geometry.proofs.ending.geometry_end.Goals as goal

pub returns-then-out-lt256 : goal.returns-then-out-lt256
returns-then-out-lt256 c = rw c.no_room.ensures (lines-refused (geometry_text (read_geometry c.args.file)) c.args.out.now c.if-out-lt256.true)

pub put_lines-end-requires : goal.put_lines-end-requires
unfolding geometry_most
put_lines-end-requires c = omega arith

pub returns : goal.returns
returns c =
    rw c.stored.ensures (rw c.read_geometry-read.ensures at
    (lines-placed (geometry_text c.read_geometry-read.result) c.args.out.now c.if-out-lt256.false c.put_lines-end.ensures.read_len_bound
    c.put_lines-end.ensures.wrote))
