-- What the code goes by alone: a register and its road as one number. Its hexadecimal digits: kind, width, three of the address, three of the
-- port that selects an index, two of the index, two of the register's number. Assumes nothing.
use Rattle.std.specs.Prelude.{ℕ, ◌/◌, ◌%◌, Bool, cond, ◌||◌, eqb}
use Rattle.places.specs.Places.{Index, any, sr, gr, data_due}
use Rattle.roads.specs.Roads.{Road}

-- '3C4h/3C5h', '3CEh/3CFh', '3C0h .. index or data': a port that selects an index
unfoldable pub index_port : ℕ → Bool
index_port port = eqb port 0x3C4 || eqb port 0x3CE || eqb port 0x3C0

-- the index that a port selects, if it selects one
unfoldable pub index_by : ℕ → ℕ → Index
index_by port n =
    cond (eqb port 0x3C4) (sr n) (cond (eqb port 0x3CE) (gr n) (cond (eqb port 0x3C0) (data_due n) any))

unfoldable pub road_of : ℕ → Road
road_of row =
    record {
      register = row % 0x100;
      kind = row / 0x100000000000 % 0x100;
      width = row / 0x10000000000 % 0x10;
      address = row / 0x10000000 % 0x1000;
      index = index_by (row / 0x10000 % 0x1000) (row / 0x100 % 0x100);
    }
