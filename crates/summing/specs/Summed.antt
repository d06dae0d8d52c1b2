-- 'Explain --summary': what is kept of a whole trace. Of each register that was reached how many writes, the union of reaches and the bits that ever
-- moved; how often each code came; the timing numbers at the start and at the end.
-- Assumes nothing.
use Rattle.std.specs.Prelude.{ℕ, ◌+◌, cond, List, [], ◌∷◌, eqb, ltb, get_or, set, replicate}
use Rattle.std.specs.Int.Bits.{bit_or, bit_xor}
use Rattle.file.specs.declared.registers.File.{File}
use Rattle.file.specs.Answers.{code_of}
use Rattle.file.specs.File.{register}
use Rattle.file.specs.Registers.{register_count}
use Rattle.access.specs.declared.record.Item.{Item}
use Rattle.access.specs.Access.{access_item}
use Rattle.explaining.specs.Explained.{reach_in}
use Rattle.explaining.specs.Moves.{numbers_in}
use Rattle.summing.specs.declared.summary.Summary.{Summary}

-- the codes from 0 to 20
abbrev pub code_count : ℕ
code_count = 21

-- before the first record
unfoldable pub begun : File → Summary
begun f =
    record {
      writes = replicate register_count 0;
      reaches = replicate register_count 0;
      moved = replicate register_count 0;
      codes = replicate code_count 0;
      first = numbers_in f;
      last = numbers_in f;
    }

-- the largest count
abbrev pub most_count : ℕ
most_count = 0xFFFFFFFFFFFFFFFF

-- one more; the largest stays
unfoldable pub more : ℕ → ℕ
more n = cond (ltb n most_count) (n + 1) n

-- a register is reached in some bits, of which some moved; one that is reached in none is not
unfoldable pub reached : Summary → ℕ → ℕ → ℕ → Summary
reached s number bits moved =
    cond (eqb bits 0) s
    (record {
      writes = set s.writes number (more (get_or s.writes number 0));
      reaches = set s.reaches number (bit_or (get_or s.reaches number 0) bits);
      moved = set s.moved number (bit_or (get_or s.moved number 0) moved);
      codes = s.codes;
      first = s.first;
      last = s.last;
    })

-- a code came
unfoldable pub coded : Summary → ℕ → Summary
coded s code =
    record {
      writes = s.writes;
      reaches = s.reaches;
      moved = s.moved;
      codes = set s.codes code (more (get_or s.codes code 0));
      first = s.first;
      last = s.last;
    }

-- the numbers are these
unfoldable pub ended : Summary → List ℕ → Summary
ended s numbers =
    record {
      writes = s.writes;
      reaches = s.reaches;
      moved = s.moved;
      codes = s.codes;
      first = s.first;
      last = numbers;
    }

-- the bits of a register that moved: those that read otherwise after than before
unfoldable pub moved_bits : File → File → ℕ → ℕ
moved_bits before after number = bit_xor (register before number) (register after number)

-- a record is taken in, by the file before it: what it reached, its code, and the numbers after it
unfoldable pub taken_in : Summary → File → Item → Summary
taken_in s f item =
    ended
    (coded (reached s (reach_in f item).register (reach_in f item).bits (moved_bits f (access_item f item).file (reach_in f item).register))
    (code_of (access_item f item).answer))
    (numbers_in (access_item f item).file)

-- the items of a trace, one after the other
unfoldable pub taken_all : Summary → File → List Item → Summary
taken_all s f [] = s
taken_all s f (i ∷ is) = taken_all (taken_in s f i) (access_item f i).file is

-- the summary of a trace, from a file on
unfoldable pub summed : File → List Item → Summary
summed f items = taken_all (begun f) f items
